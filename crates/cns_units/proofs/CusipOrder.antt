-- The characters before the check digit order CUSIPs as all nine do: for `cmp` of cusip.rt.
use Rattle.cns_units.proofs.Common.{◌≡◌, ℕ, ◌+◌, ◌*◌, ◌<◌, Bool, false, not, List, [], ◌∷◌, ◌++◌, length, take, take-append-drop, drop-cons, None, arith, nat_cmp, ordering_then, slice_cmp, slice_index, IsCusip, last_fault, AllByRecursion, nat_tests, drop_all, length-take, sum_of}
use Rattle.std.specs.Int.{w64, from_be_bytes}
use Rattle.std.specs.declared.cmp.Ordering.{Ordering}
use Rattle.std.proofs.lemmas.Map.Lookups.{exact_bytes}
use Rattle.std.proofs.lemmas.Grind.{common_steps}

-- of three comparisons the first that does not tie decides
then_then : (o p q : Ordering) → ordering_then (ordering_then o p) q ≡ ordering_then o (ordering_then p q)
then_then o p q = grind arith

-- one more byte of two numbers
byte_more : (v w a b : ℕ) → a < 256 → b < 256 → nat_cmp (v * 256 + a) (w * 256 + b) ≡ ordering_then (nat_cmp v w) (nat_cmp a b)
byte_more v w a b p q = grind (arith, nat_tests)

-- a number, and then bytes
number : ℕ → List ℕ → ℕ
number v [] = v
number v (x ∷ xs) = number (v * 256 + x) xs

-- numbers of as many bytes are in the order of their bytes
bytes_order : (v w : ℕ) (xs ys : List ℕ) → length xs ≡ length ys → AllByRecursion (λ x. x < 256) xs → AllByRecursion (λ x. x < 256) ys
    → nat_cmp (number v xs) (number w ys) ≡ ordering_then (nat_cmp v w) (slice_cmp nat_cmp xs ys)
unfolding number
bytes_order v w [] [] len p q = grind arith
bytes_order v w (x ∷ xs) (y ∷ ys) len p q = grind (arith, byte_more v w x y, then_then, bytes_order (v * 256 + x) (w * 256 + y) xs ys)
bytes_order v w _ _ len p q = absurd (omega (arith, len))

-- what eight bytes are as a number
number_of : (xs : List ℕ) → length xs ≡ 8 → from_be_bytes w64 xs ≡ number 0 xs
unfolding number
number_of (a ∷ b ∷ c ∷ d ∷ e ∷ f ∷ g ∷ h ∷ []) len = omega arith
number_of _ len = absurd (omega (arith, len))

-- characters that have a sum are bytes
are_bytes : (doubled : Bool) (xs : List ℕ) (c : ℕ) → last_fault (sum_of doubled xs) c ≡ None → AllByRecursion (λ x. x < 256) xs
unfolding sum_of
are_bytes doubled xs c e = summed doubled xs (grind (arith, e))
  where
    summed : (doubled : Bool) (xs : List ℕ) → (sum_of doubled xs ≡ None → ⊥) → AllByRecursion (λ x. x < 256) xs
    summed doubled [] some = tt
    summed doubled (x ∷ xs) some = grind (arith, common_steps, nat_tests, some, summed (not doubled) xs)

-- one character more at the end of two texts
at_end : (xs ys : List ℕ) (c d : ℕ) → length xs ≡ length ys → slice_cmp nat_cmp (xs ++ c ∷ []) (ys ++ d ∷ []) ≡ ordering_then (slice_cmp nat_cmp xs ys) (nat_cmp c d)
at_end [] [] c d len = grind arith
at_end (x ∷ xs) (y ∷ ys) c d len = grind (arith, at_end xs ys c d, then_then)
at_end _ _ c d len = absurd (omega (arith, len))

-- where the characters before them are the same, so are the check digits
same_then : (xs ys : List ℕ) (c d : ℕ) → last_fault (sum_of false xs) c ≡ None → last_fault (sum_of false ys) d ≡ None → ordering_then (slice_cmp nat_cmp xs ys) (nat_cmp c d) ≡ slice_cmp nat_cmp xs ys
same_then xs ys c d p q = grind (arith, nat_tests, exact_bytes xs ys)

-- of what a CUSIP is made
record IsMade (xs : List ℕ) : Type 0 where
  body : length (take 8 xs) ≡ 8
  sound : last_fault (sum_of false (take 8 xs)) (slice_index xs 8) ≡ None
  whole : take 8 xs ++ slice_index xs 8 ∷ [] ≡ xs

is_made : (xs : List ℕ) → IsCusip xs → IsMade xs
is_made xs is = grind (arith, nat_tests, length-take 8 xs, take-append-drop 8 xs, drop-cons xs 8 0, drop_all 9 xs)

-- CUSIPs are in the order of what stands before their check digits
pub cusips_order : (xs ys : List ℕ) → IsCusip xs → IsCusip ys → nat_cmp (from_be_bytes w64 (take 8 xs)) (from_be_bytes w64 (take 8 ys)) ≡ slice_cmp nat_cmp xs ys
cusips_order xs ys one two = grind (arith, is_made, take, nat_cmp, number_of, bytes_order, are_bytes, at_end, slice_index, same_then, slice_cmp)
