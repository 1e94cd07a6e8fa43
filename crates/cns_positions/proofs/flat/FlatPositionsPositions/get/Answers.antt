use Rattle.cns_positions.proofs.Common.{refl, keys_total}
use Rattle.cns_positions.proofs.Puts.{find_gap}
use Rattle.cns_positions.proofs.flat.FlatPositionsPositions.get.Goals as goal

pub returns-in-Err : goal.returns-in-Err
returns-in-Err g c = let gap = rw c.as_slice.ensures.value at c.in-Err.ensures.absent in rw (← c.self.view_is, find_gap keys_total c.self.inside.rows.items c.in-Err.field-0 c.args.key gap.0 gap.1) refl
