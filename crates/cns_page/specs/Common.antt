-- The names that most definitions cite, passed on from one place. Declares nothing.
pub use Rattle.std.specs.Fmt.{decimal}
pub use Rattle.std.specs.Io.KnownBytes.{Appends}
pub use Rattle.std.specs.List.{flat_map}
pub use Rattle.std.specs.Ordering.{nat_cmp}
pub use Rattle.cns_account.specs.Fails.{fail, fail_text}
pub use Rattle.cns_account.specs.Moves.{AreMoves}
pub use Rattle.cns_account.specs.Rows.{mark_text, position_text}
pub use Rattle.cns_account.specs.declared.fails.Fail.{Fail}
pub use Rattle.cns_book.specs.Log.{state_of}
pub use Rattle.cns_feed.specs.Output.{lines_of}
pub use Rattle.cns_book.specs.Shown.{position_shown}
pub use Rattle.cns_history.specs.Lines.{accounts_of}
pub use Rattle.cns_history.specs.declared.play.Watched.{Watched}
pub use Rattle.cns_tables.specs.Escape.{escaped}
pub use Rattle.cns_tables.specs.Grouped.{count_text}
pub use Rattle.cns_tables.specs.Pieces.{filled, piece_text}
pub use Rattle.cns_tables.specs.Tables.{HasMore, shown}
pub use Rattle.cns_tables.specs.declared.table.Page.{Page}
pub use Rattle.cns_tables.specs.declared.style.TheConstants.{START, STYLE}
pub use Rattle.cns_terms.specs.Common.{Account, Day, DaySheet, day, is_same_day, journal_of}
pub use Rattle.cns_terms.specs.declared.holding.Key.{Key}
pub use Rattle.cns_terms.specs.Keys.{key_cmp}
pub use Rattle.cns_terms.specs.Sheets.{sheet_on}
pub use Rattle.cns_units.specs.Day.{day_text}
pub use Rattle.cns_asked.specs.declared.asked.About.{About}
pub use Rattle.cns_asked.specs.declared.asked.Asked.{Asked}
pub use Rattle.cns_asked.specs.declared.asked.When.{When}
pub use Rattle.cns_page.specs.declared.captions.Captions.{Captions}
pub use Rattle.cns_page.specs.declared.closed.ClosedDay.{ClosedDay}
pub use Rattle.cns_page.specs.declared.foot.Origin.{Origin}
pub use Rattle.cns_page.specs.declared.source.Source.{Source}
pub use Rattle.cns_exceptions.specs.declared.play.Played.{Played}
pub use Rattle.cns_day.specs.declared.projection.Due.{Due}
pub use Rattle.cns_page.specs.declared.closed.Shared.{Shared}
pub use Rattle.cns_day.specs.declared.shorts.Aged.{Aged}
pub use Rattle.cns_exceptions.specs.declared.days.Close.{Close}
pub use Rattle.cns_exceptions.specs.declared.survey.Survey.{Survey}
pub use Rattle.cns_tables.specs.declared.piece.Piece.{Piece}
pub use Rattle.cns_history.specs.declared.play.Whose.{Whose}
