-- What a test keeps of a list that it parts.
-- For `rows_above` of flat.rt and others.
use Rattle.cns_positions.proofs.Common.{◌≡◌, refl, ℕ, zero, suc, ◌≤◌, Bool, true, false, List, [], ◌∷◌, filter, length, drop, arith, AllWithin}

module _ {X : Type 0} (t : X → Bool) where
  -- what all pass is kept whole
  pub filter_whole : (xs : List X) → AllWithin (λ x. t x ≡ true) xs 0 (length xs) → filter t xs ≡ xs
  filter_whole [] h = refl
  filter_whole (x ∷ xs) h = grind (arith, h 0 x, filter_whole xs (λ k d p q. h (suc k) d (omega arith) (omega arith)))

  -- what fails before a place and passes from there on
  pub filter_back : (xs : List X) (i : ℕ) → i ≤ length xs → AllWithin (λ x. t x ≡ false) xs 0 i → AllWithin (λ x. t x ≡ true) xs i (length xs) → filter t xs ≡ drop i xs
  filter_back xs zero le fails passes = filter_whole xs passes
  filter_back [] (suc i) le fails passes = refl
  filter_back (x ∷ xs) (suc i) le fails passes = grind (arith, fails 0 x, filter_back xs i (omega arith) (λ k d p q. fails (suc k) d (omega arith) (omega arith)) (λ k d p q. passes (suc k) d (omega arith) (omega arith)))
