use Rattle.cns_retransmit.proofs.Common.{◌≡◌, take, sum_by, capacity}
use Rattle.cns_retransmit.proofs.filling.room_up_to.Given as goal

abbrev pub invariant-loop-liable : goal.invariant-loop-liable
invariant-loop-liable g l = l.room ≡ sum_by (capacity (g.S.Shorts.short_now l.now)) (take l.liable-index l.liables)
