use Rattle.cns_actions.proofs.Common.{drop, due_entries}
use Rattle.cns_actions.proofs.DueAmounts.{IsBooked}
use Rattle.cns_actions.proofs.due_amounts.DueAmounts.of.Given as goal

abbrev pub invariant-loop-pend : goal.invariant-loop-pend
invariant-loop-pend g l = IsBooked (due_entries l.next l.pending) l.pend-index l.amounts (due_entries l.next (drop l.pend-index l.pending))
