use Rattle.cns_program.proofs.Common.{rules, ap, ap₂, codes, true, ◌≡◌, ◌∙◌, IfOk-weaker, App, Shape, app_of, with_subcommand, program_line}
use Rattle.clap.specs.Simple.{on_top}
use Rattle.cns_shell.specs.Options.{bare}
use Rattle.cns_program.proofs.CommandLine.{third_is_off}
use Rattle.cns_program.proofs.asked.command_line.Goals as goal

pub returns : goal.returns
unfolding program_line
returns c =
    let top_is : app_of c.subcommand_required.result ≡ on_top (λ (s : Shape). record s { subcommand_required = true }) (bare (codes "cnsbook")) = search rules in
    let replay_is = c.in_ok-subcommand.ensures in
    let run_is = c.in_ok-run_command.ensures in
    let statements_is = c.in_ok-statements_command.ensures in
    let with_replay = c.in_ok-subcommand-2.ensures.shape (third_is_off _ _ _ _ (ap (λ (a : App). a.top.is_plain) replay_is)) ∙ ap₂ with_subcommand top_is (ap (λ (a : App). a.top) replay_is) in
    let with_run = c.in_ok-subcommand-3.ensures.shape (third_is_off _ _ _ _ (ap (λ (a : App). a.top.is_plain) run_is)) ∙ ap₂ with_subcommand with_replay (ap (λ (a : App). a.top) run_is) in
    IfOk-weaker c.subcommand-4.result _ _ (λ r h. h.shape (third_is_off _ _ _ _ (ap (λ (a : App). a.top.is_plain) statements_is)) ∙ ap₂ with_subcommand with_run (ap (λ (a : App). a.top) statements_is)) c.subcommand-4.ensures
