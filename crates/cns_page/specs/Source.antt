-- The records of an input that a page is of.
use Rattle.std.specs.Prelude.{◌≡◌, ℕ, ◌-◌, ◌^◌, List, length, nat_lt, slice_get, take, Option, None, Some, if◌then◌else◌, option_and_then, option_map}
use Rattle.std.specs.Option.{option_map_or}
use Rattle.cns_page.specs.Common.{Close, Day, is_same_day, lines_of, About, Asked, Source, Watched, When, Whose}
use Rattle.cns_asked.specs.Asks.{closed_date}
use Rattle.cns_exceptions.specs.Days.{AreDays}
use Rattle.cns_exceptions.specs.Survey.{ComesTo}
use Rattle.cns_page.specs.Foot.{IsOrigin}
use Rattle.cns_page.specs.declared.source.Part.{Part}

-- ---- closes

abbrev pub last_close : List Close → Option Close
last_close closes = slice_get closes (length closes - 1)

-- the close before the last one, if there is one
abbrev pub close_before : List Close → Option Close
close_before closes = if nat_lt (length closes) 2 then None else slice_get closes (length closes - 2)

-- the last one, where it is that of the day that is asked for
abbrev pub asked_close : When → List Close → Option Close
asked_close When.Last closes = last_close closes
asked_close (When.Closed d) closes = option_and_then (λ c. if is_same_day c.date d then Some c else None) (last_close closes)
asked_close When.Today closes = None

-- the number of a close's record; 0 where there is none
abbrev pub number_of : Option Close → ℕ
number_of o = option_map_or (λ c. c.number) o 0

-- ---- records

-- how far they go, of which so many were read: up to the close of the day that is asked for, those after the close before looked at;
-- or all, those after the last close looked at
abbrev pub part_of : When → List Close → ℕ → Option Part
part_of When.Today closes n = Some (record { from = number_of (last_close closes); records = n; bytes = 2 ^ 64 - 1 })
part_of w closes n = option_map (λ c. record { from = number_of (close_before closes); records = c.number; bytes = c.end }) (asked_close w closes)

-- what is watched for the page of a closed day, on the day with the date
abbrev pub watched_on : About → Day → Watched
watched_on (About.Account a) d = Watched.Bookings (Whose.One a) d
watched_on About.Folder d = Watched.Bookings Whose.All d
watched_on _ d = Watched.Movements d

-- what is watched for what is asked for, by the close of the day
abbrev pub watched_for : About → Option Close → Watched
watched_for (About.Place k) c = Watched.Place k
watched_for about c = option_map_or (λ c. watched_on about c.date) c Watched.Nothing

-- the records that a page is of: the closes among them are those of the definitions, the book took the records of the part and no more, and
-- the origin is that of the part's bytes
pub record IsSource (asked : Asked) (input : List ℕ) (s : Source) : Type 0 where
  pub opened_on : s.opening ≡ asked.opening
  pub read : ℕ
  pub closes : AreDays asked.opening (closed_date asked.day) (lines_of input) (record { closes = s.closes; records = read })
  pub part : Part
  pub is_part : part_of asked.day s.closes.items read ≡ Some part
  pub made_of : IsOrigin (take part.bytes input) s.origin
  pub played : ComesTo asked.opening part.from (watched_for asked.about (asked_close asked.day s.closes.items)) (take part.records (lines_of input)) s.played
