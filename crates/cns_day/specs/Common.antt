-- The names that most definitions cite, passed on from one place. Declares nothing.
pub use Rattle.std.specs.BTreeMap.{IsOrdered, get}
pub use Rattle.std.specs.Fmt.{decimal}
pub use Rattle.std.specs.Int.{int_wrap, w128, w64}
pub use Rattle.std.specs.List.{flat_map, fold}
pub use Rattle.std.specs.Ordering.{int_cmp, int_eq, is_eq, nat_cmp}
pub use Rattle.cns_account.specs.Moves.{moves_at}
pub use Rattle.cns_account.specs.Rows.{causes, moved, no_causes, with_causes}
pub use Rattle.cns_account.specs.declared.day_moves.DayMoves.{DayMoves}
pub use Rattle.cns_book.specs.Log.{Log, state_of}
pub use Rattle.cns_book.specs.Shown.{batches_shown, notice_of}
pub use Rattle.cns_history.specs.Lines.{place, standing}
pub use Rattle.cns_tables.specs.Escape.{escaped}
pub use Rattle.cns_tables.specs.Grouped.{amount_text, count_text, signed_text}
pub use Rattle.cns_tables.specs.Pieces.{filled, piece_text}
pub use Rattle.cns_tables.specs.Tables.{cells, row_of}
pub use Rattle.cns_tables.specs.declared.table.TheConstants.{ROW}
pub use Rattle.cns_terms.specs.Common.{Account, Cusip, Day, DaySheet, Journal, Liables, Price, State, date, entry_key, is_live, is_not_after, journal_of, notices, row_key, stage}
pub use Rattle.cns_terms.specs.Keys.{key_cmp}
pub use Rattle.cns_terms.specs.Sheets.{rows_for, statement}
pub use Rattle.cns_terms.specs.Sums.{total}
pub use Rattle.cns_terms.specs.declared.command.Trade.{Trade}
pub use Rattle.cns_terms.specs.declared.sheet.Row.{Row}
pub use Rattle.cns_units.specs.Day.{day_number, day_text}
pub use Rattle.cns_day.specs.declared.figures.Figures.{Figures}
pub use Rattle.cns_day.specs.declared.notices.Numbered.{Numbered}
pub use Rattle.cns_day.specs.declared.liable.Owing.{Owing}
pub use Rattle.cns_day.specs.declared.projection.Due.{Due}
pub use Rattle.cns_day.specs.declared.shorts.Aged.{Aged}
pub use Rattle.cns_exceptions.specs.declared.days.Close.{Close}
pub use Rattle.cns_tables.specs.declared.piece.Piece.{Piece}
