use Rattle.cns_positions.proofs.Common.{◌≡◌, ◌++◌, None, length, held_above, present}
use Rattle.cns_positions.proofs.tree.first_rows.Given as goal

abbrev pub invariant-loop-row : goal.invariant-loop-row
invariant-loop-row g l = record {
  given : present l.given.items ≡ held_above l.yielded None;
  each : length (present l.given.items) ≡ length l.given.items;
  left : l.initial.row-iterator ≡ l.yielded ++ l.row-iterator;
}
