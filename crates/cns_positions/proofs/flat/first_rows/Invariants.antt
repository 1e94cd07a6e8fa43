use Rattle.cns_positions.proofs.Common.{◌≡◌, None, length, take, held_above, present}
use Rattle.cns_positions.proofs.flat.first_rows.Given as goal

abbrev pub invariant-loop-row : goal.invariant-loop-row
invariant-loop-row l = record {
  given : present l.given.items ≡ held_above (take l.row-index l.rows) None;
  each : length (present l.given.items) ≡ length l.given.items;
}
