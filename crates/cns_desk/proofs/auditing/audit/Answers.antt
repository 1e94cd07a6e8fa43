use Rattle.cns_desk.proofs.Common.{arith}
use Rattle.cns_desk.proofs.Differences.{no_part, parts_more}
use Rattle.cns_desk.proofs.auditing.audit.Goals as goal

pub loop-number-preserved : goal.loop-number-preserved
loop-number-preserved g c = parts_more c.args.book.now.log c.args.logs.now c.loop-number.number c.loop-number.invariant (rw (← c.worker_of-worker.ensures) (rw c.items_of-items.ensures at c.in_default.ensures.none))

pub returns-in-Some-clause-ok : goal.returns-in-Some-clause-ok
returns-in-Some-clause-ok g c = grind (arith, no_part, c.items_of-items.ensures, c.worker_of-worker.ensures, c.in-Some.ensures.some, c.loop-number-test.true)
