use Rattle.cns_retransmit.proofs.Common.{arith}
use Rattle.cns_retransmit.proofs.Choosing.{choosing_more}
use Rattle.cns_retransmit.proofs.choice.choose_ordered.Goals as goal

pub loop-short-preserved : goal.loop-short-preserved
loop-short-preserved g c = grind (arith, choosing_more c.loop-short.invariant c.loop-short-test.true c.short-item.is c.if-older-called.liables.items c.if-short-age.older)
