-- A closed day, with what its pages show.
use Rattle.std.specs.Prelude.{◌≡◌, Bool, true, false, List, Option, Some, option_map}
use Rattle.std.specs.Arc.{arc_value}
use Rattle.cns_page.specs.Common.{nat_cmp, Day, DaySheet, journal_of, sheet_on, state_of, About, Asked, AreMoves, Close, ClosedDay, Played, Shared, Source}
use Rattle.cns_day.specs.Due.{AreLater}
use Rattle.cns_day.specs.Listed.{AreDue, IsInOrderOf, liable_shown, live_shown, looked_at, shorts_among}
use Rattle.cns_page.specs.Source.{asked_close, close_before}

-- the date of the close before the last one, if there is one
abbrev pub date_before : List Close → Option Day
date_before closes = option_map (λ c. c.date) (close_before closes)

-- whether pages are for a folder
abbrev pub is_folder : About → Bool
is_folder About.Folder = true
is_folder _ = false

-- the rows that the page of a closed day and those of its accounts show both, by the date of the day before and by the day's sheet; the
-- members' shorts stand the oldest first
pub record AreShared (p : Played) (before : Option Day) (c : Close) (sheet : DaySheet) (g : Shared) : Type 0 where
  pub shorts : IsInOrderOf (λ s. s.age) (λ a b. nat_cmp b a) (shorts_among (state_of p.book.log) sheet.rows) g.shorts.items
  pub liable : g.liable.items ≡ liable_shown (state_of p.book.log) c.day
  pub notices : g.notices.items ≡ live_shown (state_of p.book.log)
  pub trades : AreDue p.book.log sheet.date g.trades.items
  pub later : AreLater g.trades.items g.later
  pub moves : AreMoves before c.date (looked_at p.book.log.history) p.lines.items g.moves

-- the closed day that is asked for, of its records
pub record IsClosedDay (asked : Asked) (s : Source) (d : ClosedDay) : Type 0 where
  pub source : d.source.now ≡ s
  pub close : asked_close asked.day s.closes.items ≡ Some d.close
  pub closed : sheet_on s.played.book.log.opening (journal_of (state_of s.played.book.log)) d.close.date ≡ Some (arc_value d.sheet)
  pub shared : AreShared s.played (date_before s.closes.items) d.close (arc_value d.sheet) d.shared
  pub linked : d.is_linked ≡ is_folder asked.about
