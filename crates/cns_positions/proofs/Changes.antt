-- What changes of a tree's rows make of the holdings.
-- For `first_rows`, `book`, `next_row` and `next_rows` of tree.rt and others.
use Rattle.cns_positions.proofs.Common.{arith, ◌≡◌, refl, true, [], ◌∷◌, Option, None, filter, Holding, Key, Rows, closed_rows, has_row, held_above, holding_at, key_cmp, rolled, put}
use Rattle.cns_tree.specs.Changes.{ChangesAt, ChangesEach}
use Rattle.cns_tree.specs.Search.{is_after}

-- a change at a key that has a row is a put
pub changed_at : {P : Holding → Holding → Type 0} (f : Holding → Holding) (es new : Rows) (k : Key) → has_row es k ≡ true → ((v w : Holding) → P v w → w ≡ f v) → ChangesAt P k es new → new ≡ put key_cmp k (f (holding_at es k)) es
changed_at f es new k there makes h = grind (arith, makes)

-- a change of each value that rolls it closes the rows
pub rolled_each : {P : Holding → Holding → Type 0} (es new : Rows) → ((v w : Holding) → P v w → w ≡ rolled v) → ChangesEach P es new → new ≡ closed_rows es
unfolding ChangesEach
rolled_each [] [] rolls h = refl
rolled_each (r ∷ rs) (s ∷ ss) rolls (same, p, h) = λ i. (same i, rolls r.1 s.1 p i) ∷ rolled_each rs ss rolls h i
rolled_each _ _ rolls h = absurd h

-- the rows above a key, without those of zeros, are those of the rows above it
pub above_held : (rows : Rows) (after : Option Key) → held_above (filter (is_after after) rows) None ≡ held_above rows after
above_held [] after = refl
above_held (r ∷ rows) after = grind (arith, above_held rows after)
