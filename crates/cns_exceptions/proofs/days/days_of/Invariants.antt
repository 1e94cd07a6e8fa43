use Rattle.cns_exceptions.proofs.Common.{◌≤◌, ◌+◌, Some, IsReady}
use Rattle.cns_feed.specs.Output.{lines_of}
use Rattle.cns_exceptions.proofs.DaysLemmas.{Gone}
use Rattle.cns_exceptions.proofs.days.days_of.Given as goal

abbrev pub invariant-loop-number : goal.invariant-loop-number
invariant-loop-number l = record {
  ready : IsReady l.records;
  few : l.day ≤ l.number + 1;
  gone : Gone (λ i. Some i) l.records l.fn.opening l.today l.day l.closes.items l.number (lines_of l.fn.input);
}
