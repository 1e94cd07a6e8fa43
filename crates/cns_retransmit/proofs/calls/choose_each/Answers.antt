use Rattle.cns_retransmit.proofs.Common.{arith, append_assoc}
use Rattle.cns_retransmit.proofs.calls.choose_each.Goals as goal

pub loop-issue-preserved : goal.loop-issue-preserved
loop-issue-preserved g c = grind (arith, append_assoc, rw c.in-Some.ensures.steps at c.loop-issue.invariant.can)
