use Rattle.cns_book.proofs.Common.{◌≤◌, length}
use Rattle.cns_book.proofs.RetransmittalCalls.{AreCalled}
use Rattle.cns_book.proofs.parts.Parts.calls_of_day.Given as goal

abbrev pub decreases-loop-number : goal.decreases-loop-number
decreases-loop-number g l = l.number

abbrev pub invariant-loop-number : goal.invariant-loop-number
invariant-loop-number g l = record {
  below : l.number ≤ length l.self.notices;
  called : AreCalled l.self l.number l.calls;
}
