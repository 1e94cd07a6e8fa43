use Rattle.cns_notices.proofs.Common.{arith, length-set}
use Rattle.cns_notices.proofs.Items.{set_is}
use Rattle.cns_notices.proofs.changes.end_each.Goals as goal

pub loop-number-preserved : goal.loop-number-preserved
loop-number-preserved c = record { same = grind (arith, set_is); within = rw length-set (grind arith) }
