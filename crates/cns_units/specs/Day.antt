-- Days of the calendar.
use Rattle.std.specs.Prelude.{ℕ, ◌+◌, ◌-◌, ◌*◌, ◌/◌, ◌%◌, Bool, ◌&&◌, ◌==◌, nat_le, if◌then◌else◌, List, [], ◌∷◌, ◌++◌, length, slice_index, ℤ, pos, Option, Some, None, Result, Ok, Err}
use Rattle.jiff.specs.Words.{days_in_month}
use Rattle.jiff_core.specs.Calendar.{days_from_civil}
use Rattle.cns_units.specs.Cusip.{is_digit}
use Rattle.cns_units.specs.declared.fault.UnitFault.{UnitFault}

-- a day by its parts
pub record CalendarDay : Type 0 where
  pub year : ℕ
  pub month : ℕ
  pub day : ℕ

-- the calendar has this day, in the years from 1 to 9999
abbrev pub is_calendar_day : ℕ → ℕ → ℕ → Bool
is_calendar_day y m d = nat_le 1 y && nat_le y 9999 && nat_le 1 m && nat_le m 12 && nat_le 1 d && nat_le d (days_in_month (pos y) m)

-- the number of a day: days since 1970-01-01
abbrev pub day_number : CalendarDay → ℤ
day_number c = days_from_civil (pos c.year) c.month c.day

abbrev pub two_digits : ℕ → List ℕ
two_digits n = (48 + n / 10) ∷ (48 + n % 10) ∷ []

-- `YYYY-MM-DD`
abbrev pub day_text : CalendarDay → List ℕ
day_text c = two_digits (c.year / 100) ++ two_digits (c.year % 100) ++ 45 ∷ two_digits c.month ++ 45 ∷ two_digits c.day

-- the number of the two digits at a place
abbrev pub two_at : List ℕ → ℕ → Option ℕ
two_at bytes i =
    if is_digit (slice_index bytes i) && is_digit (slice_index bytes (i + 1)) then Some ((slice_index bytes i - 48) * 10 + (slice_index bytes (i + 1) - 48))
    else None

-- the day with these parts, where the calendar has it: the century, the year in it, the month and the day
abbrev pub day_from : Option ℕ → Option ℕ → Option ℕ → Option ℕ → Result CalendarDay UnitFault
day_from (Some c) (Some y) (Some m) (Some d) =
    let year = c * 100 + y in if is_calendar_day year m d then Ok (record { year = year; month = m; day = d }) else Err UnitFault.Date
day_from _ _ _ _ = Err UnitFault.Date

-- the day that a text of the form `YYYY-MM-DD` is
abbrev pub day_of : List ℕ → Result CalendarDay UnitFault
day_of bytes =
    if (length bytes == 10) && (slice_index bytes 4 == 45) && (slice_index bytes 7 == 45)
    then day_from (two_at bytes 0) (two_at bytes 2) (two_at bytes 5) (two_at bytes 8)
    else Err UnitFault.Date
