-- A batch, as contracts see it.
use Rattle.std.specs.Prelude.{ℕ, ◌≤◌, ◌<◌, ◌^◌, ◌==◌, List, [], ◌∷◌, sum_by, if◌then◌else◌}
use Rattle.cns_retransmit.specs.Common.{Member, Liable}

-- how many of the liabilities are a member's
abbrev pub members_of : Member → List Liable → ℕ
members_of a ls = sum_by (λ l. if l.member == a then 1 else 0) ls

-- what is left of a member's liability, 0 for a member that is not there
abbrev pub left_of : Member → List Liable → ℕ
left_of a [] = 0
left_of a (l ∷ ls) = if l.member == a then l.left else left_of a ls

-- what a batch keeps: each member stands in it once, and what is left of all is a number of shares
pub record IsBatch (ls : List Liable) : Type 0 where
  pub once : (a : Member) → members_of a ls ≤ 1
  pub fits : sum_by (λ l. l.left) ls < 2 ^ 63
