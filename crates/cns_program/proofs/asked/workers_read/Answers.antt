use Rattle.cns_program.proofs.Common.{rules, ◌≡◌, true, all_ascii_digits}
use Rattle.std.proofs.lemmas.Str.Parse.{numerals_by_value, parse_digits, tells_all_ascii_digits}
use Rattle.cns_program.proofs.CommandLine.{unread}
use Rattle.cns_program.proofs.asked.workers_read.Goals as goal

pub returns-in_default-clause-value : goal.returns-in_default-clause-value
returns-in_default-clause-value c =
    let digits : all_ascii_digits c.args.text.now ≡ true = search rules in
    let told = parse_digits (numerals_by_value _ tells_all_ascii_digits) 64 c.args.text.now c.parse.result c.parse.ensures.value.0 digits in
    unread c.args.text.now (rw c.in_default.is at told)
