use Rattle.cns_retransmit.proofs.Common.{capacity}
use Rattle.cns_retransmit.proofs.FillSteps.{Filling}
use Rattle.cns_retransmit.proofs.filling.make_fills.Given as goal

abbrev pub invariant-loop-liable : goal.invariant-loop-liable
invariant-loop-liable g l = Filling (capacity (g.S.Shorts.short_now l.now)) l.shares l.money l.liables l.liable-index l.fills.items l.given l.paid
