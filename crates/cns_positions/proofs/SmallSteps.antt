-- Steps no larger than commands: their sums fit.
-- For `check_steps` of book/positions.rt in cns_tests.
use Rattle.cns_positions.proofs.Common.{ℕ, suc, ◌+◌, ◌*◌, ◌^◌, ◌≤◌, List, [], ◌∷◌, length, arith, unsigned_abs, AllByRecursion, Key, Map, Step, after_step, ints, nowhere}
use Rattle.cns_positions.specs.declared.steps.Step.TheVariants.{Get, Add, Roll}
use Rattle.cns_positions.specs.Steps.{SumsFit}

-- a step adds no more than a command can
abbrev pub IsSmallStep : Step → Type 0
IsSmallStep (Get k) = Unit {0}
IsSmallStep (Add k shares cents) = (unsigned_abs shares ≤ 10 ^ 9) × (unsigned_abs cents ≤ 10 ^ 18)
IsSmallStep Roll = Unit {0}

-- from a map whose numbers are no larger than so many steps can make them
fit_from : (m : Map) (ss : List Step) (n : ℕ) → n + length ss ≤ 2 ^ 32 → AllByRecursion IsSmallStep ss → ((k : Key) → (unsigned_abs (m k).now ≤ 10 ^ 9 * n) × (unsigned_abs (m k).contract ≤ 10 ^ 18 * n)) → SumsFit m ss
unfolding SumsFit
fit_from m [] n le p h = tt
fit_from m (s ∷ ss) n le p h = (grind (arith, ints, h), fit_from (after_step m s) ss (suc n) (omega (arith, le)) p.1 (λ k. grind (arith, ints, h k)))

-- as many small steps as a history has entries fit
pub small_fit : (ss : List Step) → length ss ≤ 2 ^ 32 → AllByRecursion IsSmallStep ss → SumsFit nowhere ss
small_fit ss le p = fit_from nowhere ss 0 (omega (arith, le)) p (λ k. omega arith)
