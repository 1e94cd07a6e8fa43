-- Lists that strictly rise.
use Rattle.cns_terms.proofs.Facts.{ℕ, ◌≤◌, nat_cmp, ◌≡◌, refl, Bool, true, false, ◌&&◌, List, [], ◌∷◌, is_eq, is_lt, Ordering, Less, arith, AllByRecursion, IsTotalOrder, list_any, both_true, less, nat_tests, put}

-- whether x comes before each
abbrev pub above_all : {K : Type 0} → (K → K → Ordering) → K → List K → Bool
above_all R x [] = true
above_all R x (y ∷ ys) = is_lt (R x y) && above_all R x ys

-- whether each comes before all after it
abbrev pub is_rising : {K : Type 0} → (K → K → Ordering) → List K → Bool
is_rising R [] = true
is_rising R (x ∷ xs) = above_all R x xs && is_rising R xs

-- what comes after 0 is 1 at least
pub from_one : (bs : List ℕ) → above_all nat_cmp 0 bs ≡ true → AllByRecursion (λ b. 1 ≤ b) bs
from_one [] h = tt
from_one (b ∷ bs) h = grind (arith, nat_tests, from_one bs)

module _ {K : Type 0} {R : K → K → Ordering} (o : IsTotalOrder R) where
  -- what comes before one that comes before all comes before all
  pub above_through : (x y : K) (ys : List K) → R x y ≡ Less → above_all R y ys ≡ true → above_all R x ys ≡ true
  above_through x y [] l h = refl
  above_through x y (z ∷ ys) l h = grind (arith, o.trans x y z, less, above_through x y ys)

  -- one more put in its place stays above what comes before it
  pub above_put : (y x : K) (zs : List K) → is_lt (R y x) ≡ true → above_all R y zs ≡ true → above_all R y (put (λ a b. is_lt (R a b)) x zs) ≡ true
  above_put y x [] p h = both_true _ _ p refl
  above_put y x (z ∷ zs) p h = grind (arith, above_put y x zs)

  -- a list in order to which one is added that does not stand in it
  pub rising_put : (x : K) (ys : List K) → is_rising R ys ≡ true → list_any (λ y. is_eq (R x y)) ys ≡ false → is_rising R (put (λ a b. is_lt (R a b)) x ys) ≡ true
  rising_put x [] h e = refl
  rising_put x (y ∷ ys) h e = grind (arith, o.antisymm x y, above_through x y ys, above_put y x ys, rising_put x ys)
