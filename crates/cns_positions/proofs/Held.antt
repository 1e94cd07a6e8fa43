-- The rows that aren't zeros, above a key.
-- For `first_rows`, `rows_above`, `next_row` and `next_rows` of flat.rt and others.
use Rattle.cns_positions.proofs.Common.{arith, ◌≡◌, ◌∙◌, sym, ap, refl, Bool, true, false, ◌&&◌, ℕ, ◌≤◌, List, [], ◌∷◌, ◌++◌, filter, length, get_or, drop, Option, Some, None, MatchOption, is_le, cases_lt, Holding, IsPartitionPoint, Key, Rows, filter_map-append, held_above, is_held, is_sorted, key_cmp, keys_total, less, next_above, present, sorted_filter, AreNext, key_after, last_of}
use Rattle.std.proofs.Common.{find}
use Rattle.std.specs.List.Sorted.{IsPartitionedBy}
use Rattle.std.proofs.Math.Bool.{and_comm}
use Rattle.cns_positions.proofs.Parted.{filter_back}
use Rattle.cns_positions.proofs.Puts.{below_later}

-- two tests, one after the other
pub filter_both : {X : Type 0} (p q : X → Bool) (xs : List X) → filter p (filter q xs) ≡ filter (λ x. p x && q x) xs
filter_both p q [] = refl
filter_both p q (x ∷ xs) = grind (arith, filter_both p q xs)

-- past the first row above a key
pub held_next : (rows : Rows) (after : Option Key) (r : Key × Holding) (rest : Rows) → is_sorted key_cmp rows ≡ true → held_above rows after ≡ r ∷ rest → held_above rows (Some r.0) ≡ rest
held_next rows after r rest s e =
    sym (filter_both (λ q. key_after (Some r.0) q.0) (λ r. is_held r.1) rows)
    ∙ next_above keys_total (key_after after) (filter (λ r. is_held r.1) rows) r rest (λ k q a l. grind (arith, less, keys_total)) (sorted_filter keys_total is_held rows s) (filter_both (λ r. key_after after r.0) (λ r. is_held r.1) rows ∙ e)

-- past the first rows above a key
pub held_rest : (rows : Rows) (after : Option Key) (given rest : Rows) → is_sorted key_cmp rows ≡ true → held_above rows after ≡ given ++ rest → held_above rows (last_of after given) ≡ rest
held_rest rows after [] rest s e = e
held_rest rows after (r ∷ given) rest s e = held_rest rows (Some r.0) given rest s (held_next rows after r (given ++ rest) s e)

-- keys in order are parted by whether they are above a key
pub parted_at : (rows : Rows) (k : Key) → is_sorted key_cmp rows ≡ true → IsPartitionedBy (λ r. is_le (key_cmp r.0 k)) rows
parted_at rows k s i j d p q h =
    let a = (get_or rows i d).0 in
    let b = (get_or rows j d).0 in
    grind (arith, cases_lt i j, below_later keys_total rows i j d s, keys_total.trans a b k, keys_total.congr b k a, keys_total.antisymm a b, keys_total.antisymm a k)

-- the rows from the first above a key on
pub above_parted : (rows : Rows) (k : Key) (i : ℕ) → i ≤ length rows → IsPartitionPoint (λ r. is_le (key_cmp r.0 k) ≡ true) (λ r. is_le (key_cmp r.0 k) ≡ false) rows i → held_above (drop i rows) None ≡ held_above rows (Some k)
above_parted rows k i le parted =
    ap (filter (λ (r : Key × Holding). is_held r.1)) (sym (filter_back (λ r. key_after (Some k) r.0) rows i le (λ j d p q. grind (arith, keys_total, parted.0 j d)) (λ j d p q. grind (arith, keys_total, parted.1 j d))))
    ∙ filter_both (λ r. is_held r.1) (λ r. key_after (Some k) r.0) rows
    ∙ (λ j. filter (λ (r : Key × Holding). and_comm (is_held r.1) (key_after (Some k) r.0) j) rows)

-- the first rows above a key, as many as are given
pub next_given : (rows : Rows) (after : Option Key) (given rest : Rows) → is_sorted key_cmp rows ≡ true → held_above rows after ≡ given ++ rest → (given ≡ [] → held_above rows after ≡ []) → AreNext rows after given
next_given rows after given rest s e left = record { first = e ∙ ap (λ rs. given ++ rs) (sym (held_rest rows after given rest s e)); left = left }

-- the first that passes a test is the first of those that pass it
pub first_passing : {X : Type 0} (p : X → Bool) (xs : List X) → MatchOption (find p xs) (filter p xs ≡ []) (λ x. (rest : List X) × (filter p xs ≡ x ∷ rest))
first_passing p [] = refl
first_passing p (x ∷ xs) = grind (arith, first_passing p xs)

-- the first row above a key, found among those above it
pub first_found : (rows above : Rows) (after : Option Key) (r : Option (Key × Holding)) → is_sorted key_cmp rows ≡ true → held_above above None ≡ held_above rows after → r ≡ find (λ r. is_held r.1) above → MatchOption r (held_above rows after ≡ []) (λ r. held_above rows after ≡ r ∷ held_above rows (Some r.0))
first_found rows above after r s same found = grind (arith, found, same, first_passing (λ (r : Key × Holding). is_held r.1) above, held_next rows after)

-- where something is given, it makes no odds where one began
pub last_given : (after : Option Key) (given : Rows) (k : Key) → last_of None given ≡ Some k → last_of after given ≡ Some k
last_given after [] k is = cc
last_given after (r ∷ given) k is = is

-- where nothing is last, nothing is given
pub none_given : (given : Rows) → last_of None given ≡ None → given ≡ []
none_given [] is = refl
none_given (r ∷ []) is = cc
none_given (r ∷ s ∷ given) is = let none : s ∷ given ≡ [] = none_given (s ∷ given) is in cc

-- one value more that is there
pub present-push : {X : Type 0} (xs : List (Option X)) (x : X) → present (xs ++ Some x ∷ []) ≡ present xs ++ x ∷ []
present-push xs x = filter_map-append (λ y. y) xs (Some x ∷ [])
