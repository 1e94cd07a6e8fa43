-- The batches of the closed days.
use Rattle.std.specs.Prelude.{◌≡◌, ℕ, zero, suc, true, List, [], map, Option, None, if◌then◌else◌, find, slice_get, unwrap_or}
use Rattle.cns_retransmit.specs.Common.{Cusip, Liables, changed_at, charged, is_sorted, nat_cmp, same_issue, slice_cmp, Fill}

-- ---- the batches of one day

-- batches, each with its issue before it
abbrev pub by_issue : List Liables → List (Cusip × Liables)
by_issue bs = map (λ b. (b.issue, b)) bs

-- whether the issues of batches strictly rise
abbrev pub RiseByIssue : List Liables → Type 0
RiseByIssue bs = is_sorted (slice_cmp nat_cmp) (by_issue bs) ≡ true

-- the batch of an issue
abbrev pub batch_in : List Liables → Cusip → Option Liables
batch_in bs c = find (λ b. same_issue b.issue c) bs

-- a batch after fills
abbrev pub charged_by : List Fill → Liables → Liables
charged_by fs b = record { issue = b.issue; members = map (charged fs) b.members }

-- a batch after fills in an issue
abbrev pub charged_if : Cusip → List Fill → Liables → Liables
charged_if c fs b = if same_issue b.issue c then charged_by fs b else b

-- batches after fills in an issue
abbrev pub charged_in : Cusip → List Fill → List Liables → List Liables
charged_in c fs bs = map (charged_if c fs) bs

-- ---- those of all closed days: day n stands at place n - 1

-- the batches of a day, where it is closed
abbrev pub day_at : List (List Liables) → ℕ → Option (List Liables)
day_at V zero = None
day_at V (suc n) = slice_get V n

-- the batches of a day; none where it is not closed
abbrev pub batches_on : List (List Liables) → ℕ → List Liables
batches_on V n = unwrap_or (day_at V n) []

-- the batch of a day in an issue
abbrev pub batch_on : List (List Liables) → ℕ → Cusip → Option Liables
batch_on V n c = batch_in (batches_on V n) c

-- the batches of all days after fills in an issue against those of a day
abbrev pub charged_on : List (List Liables) → ℕ → Cusip → List Fill → List (List Liables)
charged_on V zero c fs = V
charged_on V (suc n) c fs = changed_at (charged_in c fs) n V
