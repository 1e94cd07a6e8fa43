use Rattle.cns_program.proofs.Common.{rules, ap₂, codes, Some, ◌≡◌, ◌∙◌, IfOk-weaker, rule_of, with_rule, words_rule}
use Rattle.clap.specs.Lexer.{usize_max}
use Rattle.cns_program.proofs.CommandLine.{only_value}
use Rattle.cns_program.proofs.asked.run_command.Goals as goal

pub returns : goal.returns
returns c =
    let range_is : c.num_args-files.result.num_vals ≡ Some (record { start_inclusive = 1; end_inclusive = usize_max }) = only_value _ _ c.num_args-files.ensures.1 in
    let files_is : rule_of c.num_args-files.result ≡ words_rule (codes "files") = search rules in
    IfOk-weaker c.arg.result _ _ (λ r h. h.shape (search rules) ∙ ap₂ with_rule c.in_ok-subcommand.ensures files_is) c.arg.ensures
