-- The members whose positions splits and exchanges book.
use Rattle.std.specs.Prelude.{◌≡◌, ◌≤◌, ℕ, ℤ, pos, Bool, true, false, not, ◌&&◌, ◌==◌, List, [], ◌∷◌}
use Rattle.cns_terms.specs.Types.{AllByRecursion, list_any, Account, Member}
use Rattle.cns_terms.specs.Limits.{member_limit}

-- whether no number stands twice in a list
abbrev pub are_distinct : List ℕ → Bool
are_distinct [] = true
are_distinct (a ∷ rest) = not (list_any (λ b. a == b) rest) && are_distinct rest

-- members, none named twice, of whom none is left out who has a position
pub record AreHolders (q : Account → ℤ) (ms : List Member) : Type 0 where
  pub numbers : AllByRecursion (λ a. (1 ≤ a) × (a ≤ member_limit)) ms
  pub distinct : are_distinct ms ≡ true
  pub others : (a : Account) → 1 ≤ a → list_any (λ b. a == b) ms ≡ false → q a ≡ pos 0
