-- Cents by key, and holdings that are woven with them.
-- For `take` and `next_below` of in_order.rt, `push_holding`, `push_paid` and `collect` of cutting.rt and others.
use Rattle.cns_sheets.proofs.Common.{◌≡◌, ap, refl, ℤ, pos, Bool, true, false, List, [], ◌∷◌, ◌++◌, filter, Option, Some, None, unwrap_or, is_lt, Less, arith, CentsByKey, Holding, Key, Rows, Woven, below_all, cents_at, exact_keys, find, find_below, higher, is_sorted, key_cmp, keys_total, lower, option_or, past, unheld, weave, zeros, is_below}
use Rattle.cns_sheets.proofs.Entries.{below_keyed, find_if, find_keyed, sorted_if, sorted_keyed}

-- cents without a holding
abbrev bare : Key × ℤ → Holding × ℤ
bare c = (zeros, c.1)

-- ---- cents of lower and higher keys

-- where a key is not below another, none above it is
pub none_lower : (high : Option Key) (k : Key) (cs : CentsByKey) → is_below high k ≡ false → below_all key_cmp k cs ≡ true → lower high cs ≡ []
none_lower high k [] h b = refl
none_lower high k (c ∷ cs) h b = grind (arith, keys_total.trans, none_lower high k cs)

-- without a key all are lower
pub all_lower : (cs : CentsByKey) → lower None cs ≡ cs
all_lower [] = refl
all_lower (c ∷ cs) = ap (λ rest. c ∷ rest) (all_lower cs)

-- where none is lower, all are past
pub all_past : (high : Option Key) (cs : CentsByKey) → lower high cs ≡ [] → past high cs ≡ cs
all_past high [] h = refl
all_past high (c ∷ cs) h = grind (arith, all_past high cs)

-- those above a key below all of them are all of them
pub all_higher : (k : Key) (cs : CentsByKey) → below_all key_cmp k cs ≡ true → higher k cs ≡ cs
all_higher k [] b = refl
all_higher k (c ∷ cs) b = grind (arith, all_higher k cs)

-- a key below one that is below all is below all
pub below_later : (k q : Key) {X : Type 0} (cs : List (Key × X)) → key_cmp k q ≡ Less → below_all key_cmp q cs ≡ true → below_all key_cmp k cs ≡ true
below_later k q [] l b = refl
below_later k q (c ∷ cs) l b = grind (arith, keys_total.trans k q c.0, below_later k q cs l)

-- the cents of higher keys stand past those of lower keys
pub higher_past : (k : Key) (cs : CentsByKey) → higher k (past (Some k) cs) ≡ higher k cs
higher_past k [] = refl
higher_past k (c ∷ cs) = grind (arith, keys_total.antisymm, higher_past k cs)

-- the first of the cents is a key's, which has none lower, and the rest are of higher keys; or the key has none, and all are
pub taken : (k : Key) (c : Key × ℤ) (cs : CentsByKey) → lower (Some k) (c ∷ cs) ≡ [] → is_sorted key_cmp (c ∷ cs) ≡ true
    → (c.0 ≡ k → (cents_at (c ∷ cs) k ≡ c.1) × (higher k (c ∷ cs) ≡ cs)) × ((c.0 ≡ k → ⊥) → (cents_at (c ∷ cs) k ≡ pos 0) × (higher k (c ∷ cs) ≡ c ∷ cs))
taken k c cs none s = grind (arith, keys_total, exact_keys k c.0, keys_total.antisymm k c.0, below_later k c.0 cs, find_below keys_total k (c ∷ cs), all_higher k (c ∷ cs), all_higher k cs)

-- ---- searches

-- a search in two lists, one after the other
find-append : {X : Type 0} (k : Key) (xs ys : List (Key × X)) → find key_cmp k (xs ++ ys) ≡ option_or (find key_cmp k xs) (find key_cmp k ys)
find-append k [] ys = refl
find-append k (x ∷ xs) ys = grind (arith, find-append k xs ys)

-- a holding with cents, if there is either
abbrev pub both_at : Option Holding → Option ℤ → Option (Holding × ℤ)
both_at (Some h) o = Some (h, unwrap_or o (pos 0))
both_at None (Some n) = Some (zeros, n)
both_at None None = None

-- what a search in woven lists finds
pub find_weave : (k : Key) (hs : Rows) (cs : CentsByKey) → is_sorted key_cmp hs ≡ true → find key_cmp k (weave hs cs) ≡ both_at (find key_cmp k hs) (find key_cmp k cs)
find_weave k [] cs s = grind (arith, find_keyed bare k cs)
find_weave k (h ∷ hs) cs s = grind (arith, find-append k (unheld (lower (Some h.0) cs)) ((h.0, (h.1, cents_at cs h.0)) ∷ weave hs (higher h.0 cs)), find_keyed bare k (lower (Some h.0) cs), find_if (is_below (Some h.0)) k cs, find_weave k hs (higher h.0 cs), find_if (λ q. is_lt (key_cmp h.0 q)) k cs, keys_total.antisymm h.0 k, find_below keys_total k hs, below_later k h.0 hs, exact_keys k h.0)

-- ---- order

-- what a test of keys keeps is as high
below_if : (t : Key → Bool) (k : Key) (cs : CentsByKey) → below_all key_cmp k cs ≡ true → below_all key_cmp k (filter (λ c. t c.0) cs) ≡ true
below_if t k [] b = refl
below_if t k (c ∷ cs) b = grind (arith, below_if t k cs)

module _ (high : Key) (v : Holding × ℤ) (rest : Woven) where
  -- what is below some cents and a higher key with its rest is below the lower of those cents, with the rest after them
  below_lower : (k : Key) (cs : CentsByKey) → below_all key_cmp k cs ≡ true → key_cmp k high ≡ Less → below_all key_cmp k rest ≡ true → below_all key_cmp k (unheld (lower (Some high) cs) ++ (high, v) ∷ rest) ≡ true
  below_lower k [] b l c = grind arith
  below_lower k (c ∷ cs) b l d = grind (arith, below_lower k cs)

  -- which are in order
  sorted_lower : (cs : CentsByKey) → is_sorted key_cmp cs ≡ true → is_sorted key_cmp ((high, v) ∷ rest) ≡ true → is_sorted key_cmp (unheld (lower (Some high) cs) ++ (high, v) ∷ rest) ≡ true
  sorted_lower [] s t = t
  sorted_lower (c ∷ cs) s t = grind (arith, below_later c.0 high rest, below_lower c.0 cs, sorted_lower cs)

-- a key is below the keys of higher cents
below_higher : (k : Key) (cs : CentsByKey) → below_all key_cmp k (higher k cs) ≡ true
below_higher k [] = refl
below_higher k (c ∷ cs) = grind (arith, below_higher k cs)

-- what is below all holdings and all cents is below all that is woven of them
below_weave : (k : Key) (hs : Rows) (cs : CentsByKey) → below_all key_cmp k hs ≡ true → below_all key_cmp k cs ≡ true → below_all key_cmp k (weave hs cs) ≡ true
below_weave k [] cs b d = rw (below_keyed key_cmp bare k cs) d
below_weave k (h ∷ hs) cs b d = grind (arith, below_lower h.0 (h.1, cents_at cs h.0) (weave hs (higher h.0 cs)) k cs, below_weave k hs (higher h.0 cs), below_if (λ q. is_lt (key_cmp h.0 q)) k cs)

-- what is woven of lists in order is in order
pub sorted_weave : (hs : Rows) (cs : CentsByKey) → is_sorted key_cmp hs ≡ true → is_sorted key_cmp cs ≡ true → is_sorted key_cmp (weave hs cs) ≡ true
sorted_weave [] cs s t = rw (sorted_keyed key_cmp bare cs) t
sorted_weave (h ∷ hs) cs s t = grind (arith, sorted_lower h.0 (h.1, cents_at cs h.0) (weave hs (higher h.0 cs)) cs t, below_weave h.0 hs (higher h.0 cs), below_higher h.0 cs, sorted_weave hs (higher h.0 cs), sorted_if key_cmp (λ q. is_lt (key_cmp h.0 q)) cs t)
