use Rattle.cns_notices.proofs.Common.{arith, Expired, brought_to}
use Rattle.std.proofs.lemmas.List.Edits.{map_over_more}
use Rattle.cns_notices.proofs.changes.expire_each.Goals as goal

pub loop-noticed-preserved : goal.loop-noticed-preserved
loop-noticed-preserved c = grind (arith, map_over_more (brought_to Expired))
