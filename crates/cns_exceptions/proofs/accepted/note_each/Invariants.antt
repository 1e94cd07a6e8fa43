use Rattle.cns_exceptions.proofs.Common.{◌≡◌, take, drop, map, ◌++◌, with_trade}
use Rattle.cns_exceptions.proofs.accepted.note_each.Given as goal

abbrev pub invariant-loop-finding : goal.invariant-loop-finding
invariant-loop-finding l =
    let noted = with_trade l.invalid l.place l.trade in
    l.findings ≡ map noted (take l.finding-index l.initial.findings) ++ drop l.finding-index l.initial.findings
