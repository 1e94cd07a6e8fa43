-- What is called at a close in each issue, and who is short there.
use Rattle.std.specs.Prelude.{ℕ, ◌+◌, ◌^◌, ◌<◌, ◌≤◌, nat_lt, List, [], ◌∷◌, ◌++◌, filter, length, map, sum_by, Option}
use Rattle.cns_retransmit.specs.Common.{Cusip, Liables, Member, chosen, is_eq, lookup, nat_cmp, option_map_or, slice_cmp, Short}
use Rattle.cns_retransmit.specs.Chosen.{shorts_of}

-- ---- one issue

-- the shares that are called in an issue, and the members that are short there
pub record CalledIn : Type 0 where
  pub total : ℕ
  pub shorts : List Short

-- with so many shares more
abbrev pub with_shares : ℕ → CalledIn → CalledIn
with_shares n x = record { total = x.total + n; shorts = x.shorts }

-- with a short after the others
abbrev pub with_short : Short → CalledIn → CalledIn
with_short s x = record { total = x.total; shorts = x.shorts ++ s ∷ [] }

-- whether a batch can be chosen: each member is short once, and together they are short of a number of shares
pub record CanBeChosen (x : CalledIn) : Type 0 where
  pub distinct : (a : Member) → shorts_of a x.shorts ≤ 1
  pub fits : sum_by (λ s. s.shares) x.shorts < 2 ^ 63

-- ---- all issues, in the order of their bytes

-- what is called in an issue
abbrev pub called_in : List (Cusip × CalledIn) → Cusip → Option CalledIn
called_in es c = lookup (λ d. is_eq (slice_cmp nat_cmp c d)) es

-- the shares that are called in an issue; 0 where nothing is
abbrev pub total_in : List (Cusip × CalledIn) → Cusip → ℕ
total_in es c = option_map_or (λ x. x.total) (called_in es c) 0

-- the members that are short in an issue, where something is called
abbrev pub shorts_in : List (Cusip × CalledIn) → Cusip → List Short
shorts_in es c = option_map_or (λ x. x.shorts) (called_in es c) []

-- who is liable in an issue
abbrev pub batch_of : Cusip × CalledIn → Liables
batch_of e = record { issue = e.0; members = chosen e.1.shorts e.1.total }

-- the batches: the issues in which somebody is liable
abbrev pub batches_of : List (Cusip × CalledIn) → List Liables
batches_of es = filter (λ b. nat_lt 0 (length b.members)) (map batch_of es)
