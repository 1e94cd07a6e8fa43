-- Heights of trees: of any, and of those that are built by halves.
-- For `join` of node.rt, `take_last` of build.rt, `put_counted`, `change_counted` and `get_counted` of tree.rt.
use Rattle.cns_tree.proofs.Common.{◌≡◌, ℕ, List, ◌∷◌, ◌++◌, zero, suc, ◌+◌, ◌*◌, ◌^◌, ◌<◌, ◌≤◌, max, length, length-append, arith, pow_mono, binary_digits, IsLean, IsShallow}
use Rattle.std.proofs.Math.Nat.{two-pow-succ}
use Rattle.std.proofs.lemmas.Int.Digits.{all_below_base_digits_of, number_digits_of, number_lt}
use Rattle.std.specs.Int.Digits.{digits_of}
use Rattle.cns_tree.specs.declared.node.Lean.{Lean}

-- sides that lean are within one level
pub within_one : (lean : Lean) (a b : ℕ) → IsLean lean a b → (a ≤ b + 1) × (b ≤ a + 1)
within_one lean a b p = grind (arith, p)

-- no rows are few levels
pub shallow_none : IsShallow 0 0
shallow_none = record { levels = λ d few. omega arith }

-- two sides with a node above them
levels : (n m a b : ℕ) → a ≤ b + 1 → b ≤ a + 1 → IsShallow n a → IsShallow m b → (d : ℕ) → n + m + 1 < 2 ^ d → max a b + 1 ≤ 2 * d
levels n m a b le ge p q zero few = absurd (omega (arith, few))
levels n m a b le ge p q (suc d) few = grind arith

-- are few levels of their rows
pub shallow_joined : {E : Type 0} (l : List E) (e : E) (r : List E) (a b : ℕ) → a ≤ b + 1 → b ≤ a + 1 → IsShallow (length l) a → IsShallow (length r) b → IsShallow (length (l ++ e ∷ r)) (max a b + 1)
shallow_joined l e r a b le ge p q = record { levels = λ d few. levels (length l) (length r) a b le ge p q d (omega (arith, few, length-append l (e ∷ r))) }

-- as many rows in as many levels
pub shallow_kept : (n m a b : ℕ) → IsShallow n a → m ≡ n → b ≡ a → IsShallow m b
shallow_kept n m a b p count height = record { levels = λ d few. let low = p.levels d (omega (arith, few, count)) in omega (arith, low, height) }

-- a number is below the power of two by its binary digits
below_digits : (n : ℕ) → n < 2 ^ binary_digits n
below_digits n =
    let is = number_digits_of 2 n (omega arith) in
    let lt = number_lt 2 (digits_of 2 n) (all_below_base_digits_of 2 n (omega arith)) in
    omega (arith, is, lt)

-- so few levels are at most two for each of them
pub few_digits : (n a : ℕ) → IsShallow n a → a ≤ 2 * binary_digits n
few_digits n a p = p.levels (binary_digits n) (below_digits n)

-- n rows in a tree of the height a, the least that holds them
pub record IsFull (n a : ℕ) : Type 0 where
  pub low : 2 ^ a ≤ max 1 (2 * n)
  pub high : n < 2 ^ a

-- fewer rows don't take more levels
pub no_higher : (n m a b : ℕ) → IsFull n a → IsFull m b → m ≤ n → b ≤ a
no_higher n m a b p q le = grind (arith, two-pow-succ a, pow_mono {i = suc a} {j = b}, p.high, q.low)

-- and one row more takes at most one level more
pub one_higher : (n m a b : ℕ) → IsFull n a → IsFull m b → n ≤ m + 1 → a ≤ b + 1
one_higher n m a b p q le = grind (arith, two-pow-succ b, two-pow-succ (suc b), pow_mono {i = suc (suc b)} {j = a}, p.low, q.high)

-- few enough for any tree in memory
pub few_levels : (n a : ℕ) → IsFull n a → n < 2 ^ 64 → a < 66
few_levels n a p fits = grind (arith, pow_mono {i = 66} {j = a}, p.low)

-- what the two halves' heights are to each other
pub halves_level : (n m a b : ℕ) → IsFull n a → IsFull m b → m ≤ n → n ≤ m + 1 → (b ≤ a) × (a ≤ b + 1)
halves_level n m a b p q le more = (no_higher n m a b p q le, one_higher n m a b p q more)
