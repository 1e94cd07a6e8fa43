use Rattle.cns_sheets.proofs.Common.{◌≡◌, ◌++◌}
use Rattle.cns_sheets.proofs.same.same_rows.Given as goal

abbrev pub invariant-loop-row : goal.invariant-loop-row
invariant-loop-row g l = record {
  left : l.initial.row-iterator ≡ l.yielded ++ l.row-iterator;
  other : l.fn.other ≡ l.yielded ++ l.other;
}
