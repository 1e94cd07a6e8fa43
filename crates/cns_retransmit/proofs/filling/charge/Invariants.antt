use Rattle.cns_retransmit.proofs.Common.{◌≡◌, map, take, charged}
use Rattle.cns_retransmit.proofs.filling.charge.Given as goal

abbrev pub invariant-loop-fill : goal.invariant-loop-fill
invariant-loop-fill l = l.liables ≡ map (charged (take l.fill-index l.fills)) l.fn.liables
