use Rattle.cns_statements.proofs.Common.{◌≡◌, ◌++◌}
use Rattle.cns_statements.proofs.rows.Rows.copied.Given as goal

abbrev pub invariant-loop-row : goal.invariant-loop-row
invariant-loop-row g l = l.initial.row-iterator ≡ l.items.items ++ l.row-iterator
