-- The names that most definitions cite, passed on from one place. Declares nothing.
pub use Rattle.std.specs.Int.{int_wrap, w128, w64}
pub use Rattle.std.specs.List.{AllByRecursion, flat_map, fold}
pub use Rattle.std.specs.Option.{option_map_or}
pub use Rattle.std.specs.Ordering.{int_eq, is_eq}
pub use Rattle.cns_history.specs.Lines.{history, is_movement, row_on, standing}
pub use Rattle.cns_history.specs.Texts.{worth}
pub use Rattle.cns_history.specs.declared.line.Booking.{Booking}
pub use Rattle.cns_history.specs.declared.line.HistoryLine.{HistoryLine}
pub use Rattle.cns_tables.specs.Tables.{row_of}
pub use Rattle.cns_tables.specs.declared.table.TheConstants.{ROW}
pub use Rattle.cns_terms.specs.Common.{Account, Cusip, Day, DaySheet, Price, State, answer, cash, corporation, exchanged, is_not_after, is_same_day, journal_of, key_cmp, member_limit, opened, row_key, same_issue, shares_limit, sheet_on}
pub use Rattle.cns_terms.specs.Dividends.{declared, is_due}
pub use Rattle.cns_terms.specs.declared.action.Declared.{Declared}
pub use Rattle.cns_terms.specs.declared.action.Exchange.{Exchange}
pub use Rattle.cns_terms.specs.declared.command.Activity.{Activity}
pub use Rattle.cns_terms.specs.declared.command.Command.{Command}
pub use Rattle.cns_terms.specs.declared.history.Taken.{Taken}
pub use Rattle.cns_terms.specs.declared.holding.Key.{Key}
pub use Rattle.cns_terms.specs.declared.sheet.Row.{Row}
pub use Rattle.cns_account.specs.declared.day_moves.DayMoves.{DayMoves}
pub use Rattle.cns_account.specs.declared.moves.Moved.{Moved}
pub use Rattle.cns_account.specs.declared.moves.Moves.{Moves}
pub use Rattle.cns_account.specs.declared.past.Past.{Past}
pub use Rattle.cns_tables.specs.declared.piece.Piece.{Piece}
