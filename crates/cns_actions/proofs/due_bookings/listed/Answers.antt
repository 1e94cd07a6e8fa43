use Rattle.cns_actions.proofs.Common.{arith}
use Rattle.cns_actions.proofs.DueAmounts.{amounts_elsewhere, amounts_small, bookings_make, sorted_bookings}
use Rattle.cns_actions.proofs.due_bookings.listed.Goals as goal

pub returns-clause-same : goal.returns-clause-same
returns-clause-same g c = grind (arith, bookings_make)

pub returns-clause-others : goal.returns-clause-others
returns-clause-others g c = grind (arith, amounts_elsewhere)

pub returns-clause-small : goal.returns-clause-small
returns-clause-small g c = grind (arith, amounts_small)

pub returns-clause-rise : goal.returns-clause-rise
returns-clause-rise g c = grind (arith, sorted_bookings)
