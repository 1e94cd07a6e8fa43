use Rattle.cns_positions.proofs.Common.{arith}
use Rattle.cns_positions.proofs.Changes.{above_held}
use Rattle.cns_positions.proofs.Held.{first_found}
use Rattle.cns_positions.proofs.tree.TreePositionsPositions.next_row.Goals as goal

pub returns : goal.returns
returns g c = grind (arith, above_held, first_found c.self.inside.rows c.walk_above.result c.args.after c.first_held.result c.self.invariant)
