-- Where the days of an input end.
use Rattle.std.specs.Prelude.{◌≡◌, ℕ, ◌+◌, Bool, true, false, List, [], ◌∷◌, ◌++◌, if◌then◌else◌, length, map, take, ◌⊎◌, Option, None, Some, Ok, Err}
use Rattle.cns_exceptions.specs.Common.{option_map_or, Day, State, answer, is_not_after, opened, Line, state_after_line, Close, Reply, Activity}
use Rattle.cns_terms.specs.declared.command.Command.{Command}
use Rattle.cns_terms.specs.Common.{is_same_day}
use Rattle.cns_feed.specs.Records.{IsReady, Pending}
use Rattle.cns_feed.specs.declared.records.Records.{Records}
use Rattle.cns_exceptions.specs.declared.days.Days.{Days}

-- a day that was closed: its number, its date, and the number of the record that closed it
pub record Ended : Type 0 where
  pub day : ℕ
  pub date : Day
  pub number : ℕ

abbrev pub ended : Close → Ended
ended c = record { day = c.day; date = c.date; number = c.number }

-- the day that a reply to a record closed
abbrev pub closed_by : ℕ → Reply → List Ended
closed_by n (Reply.Closed c) = record { day = c.day; date = c.date; number = n } ∷ []
closed_by n _ = []

-- the day that a record closed, in the state before it
abbrev pub closed_at : ℕ → State → Line → List Ended
closed_at n S (Ok cmd) = closed_by n (answer S cmd)
closed_at n S (Err f) = []

-- those that records closed, in order, after so many others
unfoldable pub closed_in : ℕ → State → List Line → List Ended
closed_in n S [] = []
closed_in n S (l ∷ ls) = closed_at (n + 1) S l ++ closed_in (n + 1) (state_after_line S l) ls

-- whether a day is the last one that is wanted
abbrev pub is_last : Option Day → Day → Bool
is_last last d = option_map_or (is_same_day d) last false

-- the last of some closes is that of this day
abbrev pub EndsWith : Option Day → List Close → Type 0
EndsWith last closes = (before : List Close) × (c : Close) × (closes ≡ before ++ c ∷ []) × (is_last last c.date ≡ true)

-- where the days of the first records end, on a book that opens on a date: of all records, or of those up to the close of a day
pub record AreDays (opening : Day) (last : Option Day) (lines : List Line) (d : Days) : Type 0 where
  pub closed : map ended d.closes.items ≡ closed_in 0 (opened opening) (take d.records lines)
  pub whole : (d.records ≡ length lines) ⊎ EndsWith last d.closes.items

-- the day that a record opens, where it is a close whose date is after the open day's
abbrev pub next_day : Day → Line → Option Day
next_day today (Ok (Command.Activity (Activity.Close d))) = if is_not_after d today then None else Some d
next_day today _ = None

-- what a read of a line came to, on the open day: the day that the line opens, if it does, and the others are left; None where no line
-- was left
abbrev pub ReadsDay : {R : Type 0} → (R → Option (List ℕ)) → Records R → Records R → Day → Option (Option Day) → Type 0
ReadsDay rem old new today (Some o) = IsReady new
    × ((all : List Line) → Pending rem old all → (line : Line) × (rest : List Line) × (all ≡ line ∷ rest) × Pending rem new rest × (o ≡ next_day today line))
ReadsDay rem old new today None = (all : List Line) → Pending rem old all → all ≡ []
