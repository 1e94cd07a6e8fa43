-- Lists item by item: what changes at their places make of them, and the first item that passes a test.
-- For `live_of`, `received`, `end_issue` and `expire` of notices.rt and others.
use Rattle.cns_notices.proofs.Common.{◌≡◌, ⊤, refl, ℕ, suc, ◌+◌, Bool, true, false, cond, eqb, List, [], ◌∷◌, ◌++◌, ◌-◌, ◌<◌, ◌≤◌, length, get_or, set, Option, Some, arith, option_map, slice_get, IsSomeAnd, MatchOption, changed_at, nat_tests, position_from}

module _ {X : Type 0} where
  -- lists with the same item at each place are the same
  pub same_items : (xs ys : List X) → ((i : ℕ) → slice_get xs i ≡ slice_get ys i) → xs ≡ ys
  same_items [] [] h = refl
  same_items (x ∷ xs) (y ∷ ys) h = cc (h 0, same_items xs ys (λ i. h (suc i)))
  same_items _ _ h = cc (h 0)

  -- two changes that agree on an item, if there is one
  pub agree : (f g : X → X) (o : Option X) → ((x : X) → o ≡ Some x → f x ≡ g x) → option_map f o ≡ option_map g o
  agree f g o h = grind arith

  -- one item changed
  pub one_changed : (f : X → X) (k : ℕ) (xs : List X) (i : ℕ) → slice_get (changed_at f k xs) i ≡ option_map (λ x. cond (eqb k i) (f x) x) (slice_get xs i)
  one_changed f k [] i = grind (arith, nat_tests)
  one_changed f k (x ∷ xs) i = grind (arith, nat_tests, one_changed f (k - 1) xs (i - 1))

  -- one item more
  pub one_more : (xs : List X) (y : X) (i : ℕ) → slice_get (xs ++ y ∷ []) i ≡ cond (eqb i (length xs)) (Some y) (slice_get xs i)
  one_more [] y i = grind (arith, nat_tests)
  one_more (x ∷ xs) y i = grind (arith, nat_tests, one_more xs y (i - 1))

  -- a write of what was read, changed
  pub set_is : (f : X → X) (xs : List X) (k : ℕ) (x y : X) → k < length xs → x ≡ get_or xs k x → y ≡ f x → set xs k y ≡ changed_at f k xs
  set_is f [] k x y lt read is = refl
  set_is f (z ∷ xs) k x y lt read is = grind (arith, set_is f xs (k - 1) x y)

-- where none is found the item at a place does not pass, and what is found passes
pub first_is : {X : Type 0} (t : X → Bool) (n : ℕ) (xs : List X) (j : ℕ) → MatchOption (position_from t n xs) (MatchOption (slice_get xs j) ⊤ (λ x. t x ≡ false)) (λ k. (n ≤ k) × IsSomeAnd (slice_get xs (k - n)) (λ x. t x ≡ true))
first_is t n [] j = tt
first_is t n (y ∷ xs) j = grind (arith, first_is t (n + 1) xs (j - 1))
