use Rattle.cns_actions.proofs.Common.{◌∙◌, ap, arith, aged, holding_at, entry_key}
use Rattle.cns_actions.proofs.Making.{cents_passed, one_made, shares_passed}
use Rattle.cns_actions.proofs.bookings.book_one.Goals as goal

pub returns-then-booking-gt0-clause-made : goal.returns-then-booking-gt0-clause-made
returns-then-booking-gt0-clause-made g c k =
    let b = c.args.booking.now in
    let added = rw (shares_passed b.entry.shares (omega (arith, c.requires.small.shares)), cents_passed b.entry.cents (omega (arith, c.requires.small.cents)), c.key.ensures) at c.add.ensures.booked k in
    (rw c.key.ensures at c.carry.ensures.carried k) ∙ ap (aged (entry_key b.entry) b.carried k) added ∙ one_made b k (holding_at (g.P.Positions.rows c.args.positions.now) k)
