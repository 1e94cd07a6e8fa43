use Rattle.cns_program.proofs.Common.{ap₂, ◌∙◌, IfOk-weaker, with_rule}
use Rattle.cns_program.proofs.asked.statements_command.Goals as goal

pub returns : goal.returns
returns c =
    let first = c.in_ok-arg.ensures.shape c.required_option.ensures.local ∙ ap₂ with_rule c.in_ok-subcommand.ensures c.required_option.ensures.rule in
    IfOk-weaker c.arg-2.result _ _ (λ r h. h.shape c.required_option-2.ensures.local ∙ ap₂ with_rule first c.required_option-2.ensures.rule) c.arg-2.ensures
