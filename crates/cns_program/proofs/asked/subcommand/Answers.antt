use Rattle.cns_program.proofs.Common.{ap₂, ◌∙◌, IfOk-weaker, with_rule}
use Rattle.cns_program.proofs.asked.subcommand.Goals as goal

pub returns : goal.returns
returns c =
    IfOk-weaker c.arg.result _ _ (λ r h. h.shape c.required_option.ensures.local ∙ ap₂ with_rule c.bare_command.ensures c.required_option.ensures.rule) c.arg.ensures
