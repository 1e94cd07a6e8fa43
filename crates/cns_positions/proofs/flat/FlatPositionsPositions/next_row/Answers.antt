use Rattle.cns_positions.proofs.Common.{arith}
use Rattle.cns_positions.proofs.Held.{first_found}
use Rattle.cns_positions.proofs.flat.FlatPositionsPositions.next_row.Goals as goal

pub returns : goal.returns
returns g c = grind (arith, first_found c.self.inside.rows.items c.rows_above.result.now c.args.after c.first_held.result c.self.invariant)
