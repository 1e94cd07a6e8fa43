-- What stands at a key after a row is put.
-- For `book`, `carry`, `enter`, `get` and `roll` of flat.rt and others.
use Rattle.cns_positions.proofs.Common.{◌≡◌, ◌≢◌, ℕ, ℤ, ◌+ℤ◌, true, [], ◌∷◌, length, get_or, set, ◌<◌, None, refl, ◌∙◌, arith, HoldsAt, Less, Equal, Greater, Holding, IsPartitionPoint, Key, Rows, below_all, closed_rows, equal, exact_keys, has_row, holding_at, ints, is_sorted, key_cmp, keys_total, rolled, same_key, zeros, put, find, aged, booked, entry_of, with_age, is_eq, option_map}
use Rattle.cns_positions.proofs.Puts.{set_is_put, find_at, find_gap}
use Rattle.std.specs.FinMap.Entries.{find-put, is_sorted-put}
use Rattle.std.proofs.lemmas.Cmp.{eq_by_cmp_equiv}
use Rattle.std.proofs.lemmas.Map.Made.{lookup-map_values}
use Rattle.cns_positions.specs.Rows.{row_at}

pub sorted_put : (k : Key) (v : Holding) (es : Rows) → is_sorted key_cmp es ≡ true → is_sorted key_cmp (put key_cmp k v es) ≡ true
sorted_put k v es s = grind (arith, is_sorted-put key_cmp keys_total k v es)

module _ (es : Rows) (k : Key) (v : Holding) (q : Key) where
  -- rows that were there stay
  pub row_stays : has_row es q ≡ true → has_row (put key_cmp k v es) q ≡ true
  row_stays e = grind (arith, find-put key_cmp keys_total q k v es)

  -- another key's row is as it was
  pub other_row : q ≢ k → row_at (put key_cmp k v es) q ≡ row_at es q
  unfolding row_at
  other_row apart = grind (arith, find-put key_cmp keys_total q k v es, exact_keys q k, equal)

-- where a key has a row, one that is put there changes nothing of which keys have rows
pub places_put : (es : Rows) (k : Key) (v : Holding) → has_row es k ≡ true → (q : Key) → has_row (put key_cmp k v es) q ≡ has_row es q
places_put es k v there q = grind (arith, find-put key_cmp keys_total q k v es, exact_keys q k, equal)

-- and the key's own is there
pub row_put : (es : Rows) (k : Key) (v : Holding) → has_row (put key_cmp k v es) k ≡ true
row_put es k v = grind (arith, find-put key_cmp keys_total k k v es, (eq_by_cmp_equiv keys_total).refl k)

-- a row of zeros at a key without one changes nothing
pub entered : (es : Rows) (k : Key) → find key_cmp k es ≡ None → (q : Key) → holding_at (put key_cmp k zeros es) q ≡ holding_at es q
entered es k none q = grind (arith, find-put key_cmp keys_total q k zeros es, exact_keys q k, equal)

-- shares and cents booked in a holding
abbrev pub with_booked : Holding → ℤ → ℤ → Holding
with_booked h shares cents = record h { now = h.now +ℤ shares; contract = h.contract +ℤ cents }

-- booking in the key's row is booking the entry
pub booked_put : (es : Rows) (k : Key) (s c : ℤ) (q : Key) → holding_at (put key_cmp k (with_booked (holding_at es k) s c) es) q ≡ booked (entry_of k s c) q (holding_at es q)
booked_put es k s c q = grind (arith, find-put key_cmp keys_total q k (with_booked (holding_at es k) s c) es, exact_keys q k, equal, ints, same_key k q, (eq_by_cmp_equiv keys_total).symm q k)

-- an age in the key's row is brought to it
pub aged_put : (es : Rows) (k : Key) (n : ℕ) (q : Key) → holding_at (put key_cmp k (with_age n (holding_at es k)) es) q ≡ aged k n q (holding_at es q)
aged_put es k n q = grind (arith, find-put key_cmp keys_total q k (with_age n (holding_at es k)) es, exact_keys q k, equal, same_key k q, (eq_by_cmp_equiv keys_total).symm q k)

-- what stands in the row that a search found
pub found_here : (es : Rows) (i : ℕ) (k : Key) (d : Key × Holding) → is_sorted key_cmp es ≡ true → i < length es → HoldsAt (λ e. key_cmp e.0 k ≡ Equal) es i → holding_at es k ≡ (get_or es i d).1
found_here es i k d s lt at = grind (arith, find_at keys_total es i k d s lt (at d))

-- a key that has a row is not in a gap
pub no_gap : (es : Rows) (i : ℕ) (k : Key) → has_row es k ≡ true → IsPartitionPoint (λ e. key_cmp e.0 k ≡ Less) (λ e. key_cmp e.0 k ≡ Greater) es i → ⊥
no_gap es i k there gap = grind (arith, find_gap keys_total es i k gap.0 gap.1)

-- ---- a close

pub find_closed : (es : Rows) (k : Key) → find key_cmp k (closed_rows es) ≡ option_map rolled (find key_cmp k es)
find_closed es k = lookup-map_values rolled (λ q. is_eq (key_cmp k q)) es

below_closed : (k : Key) (es : Rows) → below_all key_cmp k (closed_rows es) ≡ below_all key_cmp k es
below_closed k [] = refl
below_closed k (e ∷ es) = cc (below_closed k es)

pub sorted_closed : (es : Rows) → is_sorted key_cmp (closed_rows es) ≡ is_sorted key_cmp es
sorted_closed [] = refl
sorted_closed (e ∷ es) = cc (below_closed e.0 es, sorted_closed es)

-- a change of the row that a search found
pub changed_here : (f : Holding → Holding) (es : Rows) (i : ℕ) (k : Key) (d : Key × Holding) (v : Holding) → is_sorted key_cmp es ≡ true → i < length es → HoldsAt (λ e. key_cmp e.0 k ≡ Equal) es i → v ≡ f (get_or es i d).1 → set es i ((get_or es i d).0, v) ≡ put key_cmp k (f (holding_at es k)) es
changed_here f es i k d v s lt at e = set_is_put keys_total es i k v d s lt (at d) ∙ cc (e, found_here es i k d s lt at)
