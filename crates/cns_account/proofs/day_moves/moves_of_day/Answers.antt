use Rattle.cns_account.proofs.Common.{arith, common_steps}
use Rattle.cns_account.proofs.day_moves.moves_of_day.Goals as goal

pub loop-line-preserved : goal.loop-line-preserved
loop-line-preserved c k = grind (arith, common_steps, c.in_ok-add_line.ensures k, c.loop-line.invariant k)
