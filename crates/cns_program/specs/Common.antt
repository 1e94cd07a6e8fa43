-- The names that most definitions of this crate cite, passed on from one place. Declares nothing.
pub use Rattle.clap.specs.Words.{App, Row, Rule, Text, all_of, first_of, new_rule, subcommand_of, with_rule, with_subcommand}
pub use Rattle.cns_book.specs.Log.{Log, state_of}
pub use Rattle.cns_desk.specs.declared.end.End.{End}
pub use Rattle.cns_feed.specs.Output.{lines_of, output}
pub use Rattle.cns_feed.specs.Replay.{StopsReplay, blank_log, log_after}
pub use Rattle.cns_program.specs.declared.asked.Asked.{Asked}
pub use Rattle.cns_shell.specs.Options.{bare, date_in, if_taken, option_rule}
pub use Rattle.cns_shell.specs.declared.fault.Fault.{Fault}
pub use Rattle.cns_terms.specs.Common.{AllByRecursion, Appends, AppendsFront, Day, DaySheet, Told, all_ascii_digits, cents_text, count, day, digits_value, journal_of, sheet_on, text_line}
