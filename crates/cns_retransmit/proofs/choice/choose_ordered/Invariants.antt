use Rattle.cns_retransmit.proofs.Choosing.{Choosing}
use Rattle.cns_retransmit.proofs.choice.choose_ordered.Given as goal

abbrev pub invariant-loop-short : goal.invariant-loop-short
invariant-loop-short g l = Choosing l.shorts l.called l.short-index l.liables.items l.age l.older l.sum
