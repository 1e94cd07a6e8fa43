-- The words of a line, as `clap` reads them.
use Rattle.std.specs.Prelude.{true, if◌then◌else◌, List, Option, Some, None, option_and_then}
use Rattle.std.specs.Result.{result_ok}
use Rattle.cns_terms.specs.Common.{Day}
use Rattle.clap.specs.Simple.{on_top}
use Rattle.clap.specs.Walk.{is_empty}
use Rattle.clap.specs.Words.{App, Row, Rule, Text, fault_of, first_of, new_app, new_rule}
use Rattle.clap.specs.declared.builder.action.ArgAction.TheVariants.{Set}
use Rattle.cns_units.specs.Day.{day_of}

-- an option that may be given, with one value
abbrev pub free_rule : Text → Rule
free_rule name = record (new_rule name) { long = Some name; action = Some Set }

-- an option that has to be given, with one value
abbrev pub option_rule : Text → Rule
option_rule name = record (free_rule name) { required = true }

-- a command that takes nothing yet, no help and no version
abbrev pub bare : Text → App
bare name = on_top (λ s. record s { disable_help_flag = true; disable_version_flag = true; disable_help_subcommand = true }) (new_app name)

-- what is made of the words of a line; None where the line is refused
abbrev pub if_taken : {T : Type 0} → App → List Text → Option T → Option T
if_taken line words made = if is_empty (fault_of line words) then made else None

-- the date of an option
abbrev pub date_in : List Row → Text → Option Day
date_in rows name = option_and_then (λ t. result_ok (day_of t)) (first_of name rows)
