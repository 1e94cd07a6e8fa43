-- The names that most definitions cite, passed on from one place. Declares nothing.
pub use Rattle.std.specs.Fmt.{decimal}
pub use Rattle.std.specs.List.{flat_map, fold}
pub use Rattle.std.specs.Option.{option_map_or}
pub use Rattle.cns_book.specs.Log.{Log, state_of}
pub use Rattle.cns_book.specs.Shown.{notice_shown, position_shown, price_shown}
pub use Rattle.cns_feed.specs.Line.{Line}
pub use Rattle.cns_feed.specs.Output.{state_after_line}
pub use Rattle.cns_feed.specs.Replay.{blank_log, log_after, log_after_line}
pub use Rattle.cns_history.specs.Lines.{history}
pub use Rattle.cns_history.specs.declared.line.HistoryLine.{HistoryLine}
pub use Rattle.cns_history.specs.declared.play.Watched.{Watched}
pub use Rattle.cns_tables.specs.Escape.{escaped}
pub use Rattle.cns_tables.specs.Grouped.{count_text}
pub use Rattle.cns_tables.specs.Pieces.{filled, piece_text}
pub use Rattle.cns_tables.specs.Tables.{cells}
pub use Rattle.cns_tables.specs.declared.table.TheConstants.{ROW}
pub use Rattle.cns_terms.specs.Common.{Account, Cusip, Day, State, answer, date, day, is_not_after, journal_of, opened}
pub use Rattle.cns_terms.specs.Numbers.{refusal_number}
pub use Rattle.cns_terms.specs.Sums.{same_issue}
pub use Rattle.cns_terms.specs.declared.action.Exchange.{Exchange}
pub use Rattle.cns_terms.specs.declared.command.Command.{Command}
pub use Rattle.cns_terms.specs.declared.command.Trade.{Trade}
pub use Rattle.cns_terms.specs.declared.history.Taken.{Taken}
pub use Rattle.cns_terms.specs.declared.refusal.Refusal.{Refusal}
pub use Rattle.cns_terms.specs.declared.reply.Reply.{Reply}
pub use Rattle.cns_units.specs.Day.{day_text}
pub use Rattle.cns_exceptions.specs.declared.finding.Accepted.{Accepted}
pub use Rattle.cns_exceptions.specs.declared.finding.Fact.{Fact}
pub use Rattle.cns_exceptions.specs.declared.finding.Finding.{Finding}
pub use Rattle.cns_exceptions.specs.declared.finding.Outcome.{Outcome}
pub use Rattle.cns_exceptions.specs.declared.finding.Waiting.{Waiting}
pub use Rattle.cns_exceptions.specs.declared.play.Played.{Played}
pub use Rattle.cns_exceptions.specs.declared.counts.Counted.{Counted}
pub use Rattle.cns_exceptions.specs.declared.days.Close.{Close}
pub use Rattle.cns_exceptions.specs.declared.survey.Survey.{Survey}
pub use Rattle.cns_exceptions.specs.declared.counts.Span.{Span}
pub use Rattle.cns_tables.specs.declared.piece.Piece.{Piece}
pub use Rattle.cns_terms.specs.declared.command.Activity.{Activity}
