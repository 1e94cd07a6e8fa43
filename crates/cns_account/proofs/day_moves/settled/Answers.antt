use Rattle.cns_account.proofs.Common.{◌∙◌, ap, arith, fold, sym, with_taken}
use Rattle.cns_account.specs.Moves.{moves_at}
use Rattle.cns_account.proofs.day_moves.settled.Goals as goal

pub loop-entry-init : goal.loop-entry-init
loop-entry-init c k = grind arith

pub loop-entry-preserved : goal.loop-entry-preserved
loop-entry-preserved c k = grind arith

pub returns : goal.returns
returns c k = sym (c.loop-entry.invariant k ∙ ap (fold (with_taken c.args.before.now c.args.day k) (moves_at c.loop-entry.moves k)) c.in-None.ensures.steps.0)
