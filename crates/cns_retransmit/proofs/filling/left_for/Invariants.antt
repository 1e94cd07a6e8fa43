use Rattle.cns_retransmit.proofs.Common.{◌≡◌, drop, left_of}
use Rattle.cns_retransmit.proofs.filling.left_for.Given as goal

abbrev pub invariant-loop-liable : goal.invariant-loop-liable
invariant-loop-liable l = left_of l.member l.liables ≡ left_of l.member (drop l.liable-index l.liables)
