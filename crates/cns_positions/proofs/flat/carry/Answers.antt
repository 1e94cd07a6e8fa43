use Rattle.cns_positions.proofs.Common.{arith, with_age}
use Rattle.cns_positions.proofs.Holdings.{aged_put, changed_here, no_gap, other_row, places_put, sorted_put}
use Rattle.cns_positions.proofs.flat.carry.Goals as goal

pub returns-in-Ok : goal.returns-in-Ok
returns-in-Ok c = grind (arith, changed_here (with_age c.args.age) c.args.rows.now c.in-Ok.at c.args.key.now c.index-rows-at.result c.carry_to.new.holding, sorted_put, places_put, other_row, aged_put)

pub returns-in_default-clause-carried : goal.returns-in_default-clause-carried
returns-in_default-clause-carried c = absurd (no_gap c.args.rows.now c.in_default.field-0 c.args.key.now c.requires.there c.in_default.ensures.absent)
