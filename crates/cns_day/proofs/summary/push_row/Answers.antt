use Rattle.cns_day.proofs.Common.{arith, common_steps}
use Rattle.cns_day.proofs.summary.push_row.Goals as goal

pub returns : goal.returns
returns c = grind (arith, common_steps)
