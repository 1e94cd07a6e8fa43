-- Lists in the order of keys: mapped, filtered, searched.
-- For `of_rows`, `row`, `rows_of`, `rows_in` and `build` of sheet.rt, `first_in` of in_issue.rt and others.
use Rattle.cns_sheets.proofs.Common.{◌≡◌, sym, ap, refl, ℕ, ◌+◌, ◌<◌, Bool, true, cond, List, [], ◌∷◌, length, get_or, drop, drop_more, map, filter, Some, None, MatchOption, Ordering, is_lt, Less, arith, option_map, IsTotalOrder, Key, below_all, exact_keys, find, first, first_passing, is_sorted, key_cmp, next_above}
use lib.Ieee.Bits.{is_true}
use Rattle.cns_terms.proofs.Finds.{as_T}
use Rattle.std.specs.FinMap.Entries.{find-where_key, is_sorted-where_key}

-- what a test keeps of a list that is made of another
pub filter-map : {X Y : Type 0} (t : Y → Bool) (f : X → Y) (xs : List X) → filter t (map f xs) ≡ map f (filter (λ x. t (f x)) xs)
filter-map t f [] = refl
filter-map t f (x ∷ xs) = grind (arith, filter-map t f xs)

-- what a search finds passes its test
pub first_passes : {X : Type 0} (t : X → Bool) (xs : List X) (f : X) → first t xs ≡ Some f → t f ≡ true
first_passes t [] f h = cc
first_passes t (x ∷ xs) f h = grind (arith, first_passes t xs f)

module _ {K X : Type 0} (R : K → K → Ordering) where
  -- what a test of keys keeps is in order
  pub sorted_if : (t : K → Bool) (es : List (K × X)) → is_sorted R es ≡ true → is_sorted R (filter (λ e. t e.0) es) ≡ true
  sorted_if t es s = is_true _ (is_sorted-where_key R t es (as_T _ s))

  -- the first that passes a test which all later keys pass, and then those above it are all that do
  pub first_above : (o : IsTotalOrder R) (t : K → Bool) (es : List (K × X)) → ((k q : K) → t k ≡ true → R k q ≡ Less → t q ≡ true) → is_sorted R es ≡ true
      → MatchOption (first (λ e. t e.0) es) (filter (λ e. t e.0) es ≡ []) (λ f. filter (λ e. t e.0) es ≡ f ∷ filter (λ e. is_lt (R f.0 e.0)) es)
  first_above o t es up s = grind (arith, first_passing (λ e. t e.0) es, next_above o t es)

module _ {K X Y : Type 0} (R : K → K → Ordering) (f : K × X → Y) where
  pub below_keyed : (k : K) (es : List (K × X)) → below_all R k (map (λ e. (e.0, f e)) es) ≡ below_all R k es
  below_keyed k [] = refl
  below_keyed k (e ∷ es) = rw (below_keyed k es) refl

  -- other values leave the order of keys
  pub sorted_keyed : (es : List (K × X)) → is_sorted R (map (λ e. (e.0, f e)) es) ≡ is_sorted R es
  sorted_keyed [] = refl
  sorted_keyed (e ∷ es) = rw (below_keyed e.0 es, sorted_keyed es) refl

-- a search among values that are made of others and of their keys
pub find_keyed : {X Y : Type 0} (f : Key × X → Y) (k : Key) (es : List (Key × X)) → find key_cmp k (map (λ e. (e.0, f e)) es) ≡ option_map (λ v. f (k, v)) (find key_cmp k es)
find_keyed f k [] = refl
find_keyed f k (e ∷ es) = grind (arith, exact_keys k e.0, find_keyed f k es)

-- a search among the keys that pass a test
pub find_if : {X : Type 0} (t : Key → Bool) (k : Key) (es : List (Key × X)) → find key_cmp k (filter (λ e. t e.0) es) ≡ cond (t k) (find key_cmp k es) None
find_if t k es = grind (arith, find-where_key key_cmp t k (λ q e. ap t (sym (exact_keys k q e))) es)
