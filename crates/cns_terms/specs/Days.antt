-- Days of the book, and the journal as each close found it.
use Rattle.std.specs.Prelude.{ℕ, ◌+◌, Bool, List, [], ◌∷◌, length, Option, Some, None, is_some, unwrap_or, find, ◌==◌, slice_get, int_le, if◌then◌else◌}
use Rattle.cns_terms.specs.Types.{int_eq, Day, Activity, day_number}
use Rattle.cns_terms.specs.Postings.{Journal}

-- whether two days are the same, by their numbers
abbrev pub is_same_day : Day → Day → Bool
is_same_day d e = int_eq (day_number d) (day_number e)

-- whether the first day is not after the second, by their numbers
abbrev pub is_not_after : Day → Day → Bool
is_not_after d e = int_le (day_number d) (day_number e)

-- the date that a CLOSE names
abbrev pub next_date : Activity → Option Day
next_date (Activity.Close d) = Some d
next_date _ = None

-- whether an activity ends a day
abbrev pub is_close : Activity → Bool
is_close x = is_some (next_date x)

-- the journal as each CLOSE found it, the newest first
abbrev pub closings : Journal → List Journal
closings [] = []
closings (p ∷ J) = if is_close p.activity then J ∷ closings J else closings J

-- how many days are closed
abbrev pub closes : Journal → ℕ
closes J = length (closings J)

-- the open day's number
abbrev pub day : Journal → ℕ
day J = closes J + 1

-- the open day's date: what the last CLOSE named, or the opening date
abbrev pub date : Day → Journal → Day
date opening [] = opening
date opening (p ∷ J) = unwrap_or (next_date p.activity) (date opening J)

-- the journal as the close of a day found it; empty for a day that is not closed
abbrev pub at_close : Journal → ℕ → Journal
at_close J i = unwrap_or (find (λ K. day K == i) (closings J)) []

-- the journal as the close of the day with the date found it, if such a day is closed
abbrev pub closed_on : Day → Journal → Day → Option Journal
closed_on opening J d = find (λ K. is_same_day (date opening K) d) (closings J)

-- the journal as the last close found it
abbrev pub last_close : Journal → Journal
last_close J = unwrap_or (slice_get (closings J) 0) []

-- the postings of the open day, with the CLOSE that opened it
abbrev pub open_day : Journal → Journal
open_day [] = []
open_day (p ∷ J) = p ∷ (if is_close p.activity then [] else open_day J)
