use Rattle.cns_page.proofs.Common.{arith, common_steps}
use Rattle.cns_page.proofs.account.own_fails.Goals as goal

pub loop-short-preserved : goal.loop-short-preserved
loop-short-preserved c = grind (arith, common_steps)
