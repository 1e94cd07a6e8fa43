use Rattle.cns_actions.proofs.Common.{◌≡◌, take, true, All, AreElsewhere, Key, has_row, holding_at, entry_key}
use Rattle.cns_actions.proofs.bookings.enter_all.Given as goal

abbrev pub invariant-loop-booking : goal.invariant-loop-booking
invariant-loop-booking g l = record {
  same : (k : Key) → holding_at (g.P.Positions.rows l.positions) k ≡ holding_at (g.P.Positions.rows l.fn.positions) k;
  others : (k : Key) → AreElsewhere k l.bookings → has_row (g.P.Positions.rows l.positions) k ≡ has_row (g.P.Positions.rows l.fn.positions) k;
  there : All (λ b. has_row (g.P.Positions.rows l.positions) (entry_key b.entry) ≡ true) (take l.booking-index l.bookings);
}
