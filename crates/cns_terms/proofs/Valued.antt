-- A value for each of some issues.
use Rattle.cns_terms.proofs.Facts.{◌≡◌, refl, true, cond, List, [], ◌∷◌, map, Some, None, bytes_eq, nat_cmp, arith, Cusip, below_all, is_sorted, list_any, slice_cmp, bytes_eq-Decides, same_test}
use Rattle.std.specs.FinMap.{find}
use Rattle.cns_terms.proofs.Rising.{above_all, is_rising}

module _ {X : Type 0} (p : Cusip → X) where
  -- what stands above an issue stands above it with its value
  above_with : (c : Cusip) (cs : List Cusip) → above_all (slice_cmp nat_cmp) c cs ≡ true → below_all (slice_cmp nat_cmp) c (map (λ d. (d, p d)) cs) ≡ true
  above_with c [] h = refl
  above_with c (d ∷ cs) h = grind (arith, above_with c cs)

  -- values of issues in order are in that order
  pub sorted_with : (cs : List Cusip) → is_rising (slice_cmp nat_cmp) cs ≡ true → is_sorted (slice_cmp nat_cmp) (map (λ d. (d, p d)) cs) ≡ true
  sorted_with [] h = refl
  sorted_with (c ∷ cs) h = grind (arith, above_with, sorted_with cs)

  -- the value of an issue among those of issues
  pub find_with : (c : Cusip) (cs : List Cusip) → find (slice_cmp nat_cmp) c (map (λ d. (d, p d)) cs) ≡ cond (list_any (λ d. bytes_eq d c) cs) (Some (p c)) None
  find_with c [] = refl
  find_with c (d ∷ cs) = grind (arith, same_test, bytes_eq-Decides, find_with c cs)
