use Rattle.cns_notices.proofs.Common.{◌≡◌, take, drop, map, ◌++◌, Expired, brought_to}
use Rattle.cns_notices.proofs.changes.expire_each.Given as goal

abbrev pub invariant-loop-noticed : goal.invariant-loop-noticed
invariant-loop-noticed l = l.notices ≡ map (brought_to Expired) (take l.noticed-index l.initial.notices) ++ drop l.noticed-index l.initial.notices
