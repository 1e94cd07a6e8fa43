-- The names that most definitions of this crate cite, passed on from one place. Declares nothing.
pub use Rattle.cns_feed.specs.declared.fault.LineFault.{LineFault}
pub use Rattle.cns_feed.specs.declared.fault.ReplayFault.{ReplayFault}
pub use Rattle.cns_feed.specs.declared.records.Records.{Records}
pub use Rattle.cns_feed.specs.declared.summary.Summary.{Summary}
pub use Rattle.cns_statements.specs.Texts.{rows_text, stated_line}
pub use Rattle.cns_terms.specs.Common.{Account, Appends, AppendsFront, Cusip, Day, Keeps, Liables, Member, Price, Rate, Ratio, State, Told, UnitFault, all_ascii_digits, answer, batches, cents_text, count, digits_value, journal_of, next, opened, rows_for, text_line}
pub use Rattle.cns_terms.specs.declared.command.Command.{Command}
pub use Rattle.cns_terms.specs.declared.reply.Reply.{Reply}
pub use Rattle.cns_units.specs.Day.{day_of, day_text}
pub use Rattle.cns_units.specs.Ranges.{ratio_of, within}
pub use Rattle.csv.specs.Machine.{ends_at_end}
pub use Rattle.csv.specs.Reading.{Ready, default_config, has_failed, is_flexible, reader_config, reader_state, reader_trim, records, records_from, source_of, strip_bom}
pub use Rattle.cns_terms.specs.declared.command.Activity.{Activity}
