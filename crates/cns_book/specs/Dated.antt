-- Closed days by their dates.
use Rattle.std.specs.Prelude.{◌≡◌, true, int_lt, List, [], ◌∷◌, filter_map, find, Option, option_map, slice_get, Bool}
use Rattle.cns_book.specs.Common.{Day, DaySheet, day_number, is_not_after, is_same_day, Declared}
use Rattle.cns_sheets.specs.Payments.{Paying}

-- the date is after that of the day that was closed last
abbrev pub IsAfter : Day → List DaySheet → Type 0
IsAfter d [] = Unit {0}
IsAfter d (s ∷ ss) = int_lt (day_number s.date) (day_number d) ≡ true

-- closed days from the newest back: each is after the one before
abbrev pub AreFalling : List DaySheet → Type 0
AreFalling [] = Unit {0}
AreFalling (s ∷ ss) = IsAfter s.date ss × AreFalling ss

-- whether the sheet is of the day with the date
abbrev pub is_dated : Day → DaySheet → Bool
is_dated d s = is_same_day s.date d

-- the first of the sheets that is of the day with the date, if one is
abbrev pub dated_sheet : List DaySheet → Day → Option DaySheet
dated_sheet ss d = find (is_dated d) ss

-- the date of the day that was closed last
abbrev pub last_dated : List DaySheet → Option Day
last_dated ss = option_map (λ s. s.date) (slice_get ss 0)

-- whether the sheet is of a day on or before the date
abbrev pub is_dated_by : Day → DaySheet → Bool
is_dated_by d s = is_not_after s.date d

-- the first of the sheets that is of a day on or before the date, if one is
abbrev pub sheet_as_of : List DaySheet → Day → Option DaySheet
sheet_as_of ss d = find (is_dated_by d) ss

-- dividends with the rows of the sheets of their record dates; one that was recorded before the first close has none
abbrev pub payments_by : List DaySheet → List Declared → List Paying
payments_by ss ds = filter_map (λ d. option_map (λ s. (d, s.rows)) (sheet_as_of ss d.recorded)) ds
