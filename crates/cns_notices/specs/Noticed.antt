-- The notices in the order in which they were accepted: notice k stands at place k - 1.
use Rattle.std.specs.Prelude.{ℕ, ◌+◌, ◌-◌, ℤ, Bool, ◌&&◌, ◌==◌, List, Option, if◌then◌else◌, slice_get}
use Rattle.cns_terms.specs.Common.{Cusip, Member, changed_at, is_live, position_from, same_issue, what_remains}
use Rattle.cns_terms.specs.declared.buy_in.Given.{Given}
use Rattle.cns_terms.specs.declared.buy_in.Stage.{Stage}
use Rattle.cns_terms.specs.declared.buy_in.Stage.TheVariants.{Live, Ended, Expired}
use Rattle.cns_notices.specs.declared.noticed.Noticed.{Noticed}

-- ---- one notice

-- a notice that was given just now
abbrev pub new_notice : Given → Noticed
new_notice g = record { given = g; stage = Live; received = 0; executed = 0 }

-- a notice at another stage
abbrev pub at_stage : Stage → Noticed → Noticed
at_stage s x = record x { stage = s }

-- a live notice at another stage, and any other as it is
abbrev pub brought_to : Stage → Noticed → Noticed
brought_to s x = if is_live x.stage then at_stage s x else x

-- a notice of whose issue its member received so many shares more
abbrev pub has_received : ℕ → Noticed → Noticed
has_received n x = record x { received = x.received + n }

-- a notice on which so many shares more were bought in
abbrev pub executes : ℕ → Noticed → Noticed
executes n x = record x { executed = x.executed + n }

-- what remains of a notice, by its member's position
abbrev pub remaining_of : ℤ → Noticed → ℕ
remaining_of q x = what_remains x.stage x.given.shares x.received x.executed q

-- whether a notice is a member's live one in an issue
abbrev pub is_live_of : Member → Cusip → Noticed → Bool
is_live_of a c x = is_live x.stage && ((x.given.member == a) && same_issue x.given.issue c)

-- ---- all of them

-- the notice with a number
abbrev pub notice_at : List Noticed → ℕ → Option Noticed
notice_at xs k = slice_get xs (k - 1)

-- the number of a member's live notice in an issue: of the first, and no more than one is ever live
abbrev pub live_number : List Noticed → Member → Cusip → Option ℕ
live_number xs a c = position_from (is_live_of a c) 1 xs

-- the notices with the one of a number changed by f
abbrev pub with_notice : (Noticed → Noticed) → ℕ → List Noticed → List Noticed
with_notice f k xs = changed_at f (k - 1) xs

-- a live notice in the issue has ended
abbrev pub ended : Cusip → Noticed → Noticed
ended c x = if same_issue c x.given.issue then brought_to Ended x else x

-- a live notice that was given on the day has expired
abbrev pub expired_from : ℕ → Noticed → Noticed
expired_from day x = if x.given.day == day then brought_to Expired x else x

-- a live notice that was given two days before the day has expired
abbrev pub expired : ℕ → Noticed → Noticed
expired day x = if x.given.day + 2 == day then brought_to Expired x else x

-- a member's live notice in an issue has received so many shares more
abbrev pub receives : Member → Cusip → ℕ → Noticed → Noticed
receives a c n x = if is_live_of a c x then has_received n x else x
