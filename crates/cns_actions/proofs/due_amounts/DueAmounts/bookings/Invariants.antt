use Rattle.cns_actions.proofs.Common.{◌≡◌, ◌++◌, map, length, as_booking}
use Rattle.cns_actions.proofs.due_amounts.DueAmounts.bookings.Given as goal

abbrev pub invariant-loop-key : goal.invariant-loop-key
invariant-loop-key g l = map as_booking l.self ≡ l.bookings.items ++ map as_booking l.rest

abbrev pub decreases-loop-key : goal.decreases-loop-key
decreases-loop-key g l = length l.rest
