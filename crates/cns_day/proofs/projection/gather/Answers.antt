use Rattle.cns_day.proofs.Common.{arith, common_steps, map-append}
use Rattle.cns_day.proofs.Gathered.{later_more}
use Rattle.cns_day.proofs.projection.gather.Goals as goal

pub loop-entry-preserved-in_default : goal.loop-entry-preserved-in_default
loop-entry-preserved-in_default c = grind (arith, common_steps, later_more)

pub loop-entry-preserved : goal.loop-entry-preserved
loop-entry-preserved c = grind (arith, common_steps, later_more, map-append)
