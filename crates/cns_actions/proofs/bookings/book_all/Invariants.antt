use Rattle.cns_actions.proofs.Common.{◌≡◌, drop, Key, has_row, holding_at, makes}
use Rattle.cns_actions.proofs.Making.{AreReady}
use Rattle.cns_actions.proofs.bookings.book_all.Given as goal

abbrev pub invariant-loop-booking : goal.invariant-loop-booking
invariant-loop-booking g l = record {
  made : (k : Key) → makes (drop l.booking-index l.bookings) k (holding_at (g.P.Positions.rows l.positions) k) ≡ makes l.bookings k (holding_at (g.P.Positions.rows l.fn.positions) k);
  places : (k : Key) → has_row (g.P.Positions.rows l.positions) k ≡ has_row (g.P.Positions.rows l.fn.positions) k;
  ready : AreReady (g.P.Positions.rows l.positions) (drop l.booking-index l.bookings);
}
