-- The names that most definitions of this crate cite, passed on from one place. Declares nothing.
pub use Rattle.cns_book.specs.Shown.{notice_shown, position_shown}
pub use Rattle.cns_feed.specs.Line.{Line}
pub use Rattle.cns_feed.specs.Output.{state_after, state_after_line}
pub use Rattle.cns_history.specs.declared.line.Booking.{Booking}
pub use Rattle.cns_history.specs.declared.line.Closing.{Closing}
pub use Rattle.cns_history.specs.declared.line.HistoryLine.{HistoryLine}
pub use Rattle.cns_history.specs.declared.play.Watched.{Watched}
pub use Rattle.cns_tables.specs.Escape.{escaped}
pub use Rattle.cns_tables.specs.Pieces.{filled}
pub use Rattle.cns_terms.specs.Common.{Account, Cusip, Day, State, answer, corporation, date, is_same_day, journal_of, next, opened, sheet_on, total}
pub use Rattle.cns_terms.specs.declared.command.Activity.{Activity}
pub use Rattle.cns_terms.specs.declared.holding.Key.{Key}
pub use Rattle.cns_terms.specs.declared.sheet.Row.{Row}
pub use Rattle.cns_units.specs.Day.{day_text}
pub use Rattle.std.specs.Fmt.{decimal}
