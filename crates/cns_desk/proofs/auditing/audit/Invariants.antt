use Rattle.cns_desk.proofs.Common.{◌≤◌, ◌<◌, Worker, IsPart, part_of}
use Rattle.cns_desk.proofs.auditing.audit.Given as goal

-- the lower workers' logs are their parts
abbrev pub invariant-loop-number : goal.invariant-loop-number
invariant-loop-number g l = (w : Worker) → 1 ≤ w → w < l.number → IsPart l.book.log w (part_of l.logs w)
