use Rattle.cns_desk.proofs.Common.{arith}
use Rattle.cns_desk.proofs.Differences.{whole}
use Rattle.cns_desk.proofs.auditing.first_difference.Goals as goal

pub returns-clause-none : goal.returns-clause-none
returns-clause-none g c = whole c.args.book.now.log c.args.worker c.args.items.now (λ k one low. c.loop-at.invariant.same k one (omega (arith, c.loop-at-test.false))) (omega (arith, c.count-count.ensures, c.if-items-count.false, c.loop-at.invariant.inside, c.loop-at.auto.at-end))
