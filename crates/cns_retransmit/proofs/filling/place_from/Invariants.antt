use Rattle.cns_retransmit.proofs.Common.{◌≡◌, drop, members_of}
use Rattle.cns_retransmit.proofs.filling.place_from.Given as goal

abbrev pub invariant-loop-place : goal.invariant-loop-place
invariant-loop-place l = members_of l.member (drop l.from l.liables) ≡ members_of l.member (drop l.place l.liables)
