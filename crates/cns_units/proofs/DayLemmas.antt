-- No two days have the same number.
use Rattle.cns_units.proofs.Common.{◌≡◌, ℕ, ◌≤◌, pos, true, false, ◌&&◌, nat_le, nat_eq, arith, ints, int_eq, nat_tests, Decides-int_eq}
use Rattle.jiff_core.specs.declared.civil.date.Date.{Date}
use Rattle.jiff_core.specs.Calendar.{days_in_month}
use Rattle.jiff_core.proofs.DateLemmas.{epoch_day_injective}
use Rattle.cns_units.specs.Day.{CalendarDay, day_number, is_calendar_day}

-- the bounds that make up a day of the calendar
valid_parts : (y m d n : ℕ) → (nat_le 1 y && nat_le y 9999 && nat_le 1 m && nat_le m 12 && nat_le 1 d && nat_le d n) ≡ true → (1 ≤ y) × (y ≤ 9999) × (1 ≤ m) × (m ≤ 12) × (1 ≤ d) × (d ≤ n)
valid_parts y m d n h = grind (arith, nat_tests, h)

-- the library's date of a day
date_of : (c : CalendarDay) → is_calendar_day c.year c.month c.day ≡ true → Date
date_of c h =
    let p = valid_parts c.year c.month c.day (days_in_month (pos c.year) c.month) h in
    record { year = pos c.year; month = c.month; day = c.day; year_in = (omega (arith, ints), omega (arith, ints)); month_in = (p.2, p.3); day_in = (p.4, p.5) }

-- days whose parts differ have different numbers
pub differ : (a b : CalendarDay) → is_calendar_day a.year a.month a.day ≡ true → is_calendar_day b.year b.month b.day ≡ true
    → ((a.year ≡ b.year) × (a.month ≡ b.month) × (a.day ≡ b.day) → ⊥) → false ≡ int_eq (day_number a) (day_number b)
unfolding date_of
differ a b p q h = grind (arith, ints, Decides-int_eq (day_number a) (day_number b), epoch_day_injective (date_of a p) (date_of b q), h)

-- the test of two years, where the other parts agree
pub years_test : (a b : CalendarDay) → is_calendar_day a.year a.month a.day ≡ true → is_calendar_day b.year b.month b.day ≡ true
    → a.month ≡ b.month → a.day ≡ b.day → nat_eq a.year b.year ≡ int_eq (day_number a) (day_number b)
years_test a b p q m d = grind (arith, nat_tests, Decides-int_eq (day_number a) (day_number b), differ a b p q)
