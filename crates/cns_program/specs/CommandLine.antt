-- The lines that the program takes, as `clap` reads them.
use Rattle.std.specs.Prelude.{true, List, Option, Some, codes}
use Rattle.cns_program.specs.Common.{App, Row, Rule, Text, new_rule, subcommand_of, with_rule, with_subcommand, bare, if_taken, option_rule}
use Rattle.clap.specs.Lexer.{usize_max}
use Rattle.clap.specs.Simple.{on_top}
use Rattle.clap.specs.declared.builder.action.ArgAction.TheVariants.{Append}

-- words that are no options, of which there has to be one
abbrev pub words_rule : Text → Rule
words_rule name = record (new_rule name) {
  required = true;
  action = Some Append;
  range = Some (record { start_inclusive = 1; end_inclusive = usize_max });
}

-- a subcommand with a date on which its book opens
abbrev pub opening_command : Text → App
opening_command name = with_rule (bare name) (option_rule (codes "open"))

abbrev pub run_command : App
run_command = with_rule (opening_command (codes "run")) (words_rule (codes "files"))

abbrev pub statements_command : App
statements_command =
    with_rule (with_rule (opening_command (codes "statements")) (option_rule (codes "day"))) (option_rule (codes "workers"))

-- a replay; a run of files; the statements of a day, by so many workers
unfoldable pub program_line : App
program_line =
    let top = on_top (λ s. record s { subcommand_required = true }) (bare (codes "cnsbook")) in
    with_subcommand (with_subcommand (with_subcommand top (opening_command (codes "replay")).top) run_command.top) statements_command.top

-- the subcommand of a line, and what was found for its arguments; None where the line is not taken
abbrev pub found_by : List Text → Option (Text × List Row)
found_by words = if_taken program_line words (subcommand_of program_line words)
