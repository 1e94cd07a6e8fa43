use Rattle.cns_positions.proofs.Common.{arith, to_z-of_z}
use Rattle.std.proofs.lemmas.List.{take_at}
use Rattle.cns_positions.proofs.flat.FlatPositionsPositions.add.Goals as goal

pub book-requires-clause-shares_fit : goal.book-requires-clause-shares_fit
book-requires-clause-shares_fit g c = grind (arith, to_z-of_z)

pub book-requires-clause-cents_fit : goal.book-requires-clause-cents_fit
book-requires-clause-cents_fit g c = grind (arith, to_z-of_z)

pub invariant_of-self : goal.invariant_of-self
invariant_of-self g c = grind (arith, take_at)

pub returns-clause-booked : goal.returns-clause-booked
returns-clause-booked g c = grind (arith, to_z-of_z, take_at)

pub returns-clause-others : goal.returns-clause-others
returns-clause-others g c = grind (arith, take_at)

pub returns-clause-places : goal.returns-clause-places
returns-clause-places g c = grind (arith, take_at)

pub returns-clause-order : goal.returns-clause-order
returns-clause-order g c = grind (arith, take_at)
