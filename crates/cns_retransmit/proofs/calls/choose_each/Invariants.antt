use Rattle.cns_retransmit.proofs.Common.{◌≡◌, ◌++◌, AllByRecursion, CanBeChosen, batches_of}
use Rattle.cns_retransmit.proofs.calls.choose_each.Given as goal

abbrev pub invariant-loop-issue : goal.invariant-loop-issue
invariant-loop-issue g l = record {
  same : l.batches.items ++ batches_of l.issue-iterator ≡ batches_of l.fn.issues;
  can : AllByRecursion (λ e. CanBeChosen e.1) l.issue-iterator;
}
