use Rattle.cns_actions.proofs.Common.{◌≡◌, ◌≤◌, ◌++◌, None, length, unsigned_abs, flat_map, AllByRecursion, AreSmall, all_bookings, corporation, has_position_or_age, held_above, holders_after, holders_in, holding_at, member_bookings, oldest_of, position_limit}
use Rattle.cns_actions.proofs.acting.all_bookings.Given as goal

abbrev pub invariant-loop-holder : goal.invariant-loop-holder
invariant-loop-holder g l = record {
  bookings : all_bookings l.action l.sum (oldest_of (holding_at (g.P.Positions.rows l.positions) (record { account = corporation; issue = l.issue }))) (holders_in has_position_or_age l.issue (held_above (g.P.Positions.rows l.positions) None)) ≡ l.bookings.items ++ flat_map (member_bookings l.action) (holders_after (g.P.Positions.rows l.positions) l.issue l.passed);
  small : AreSmall l.bookings.items;
  within : AllByRecursion (λ h. unsigned_abs h.shares ≤ position_limit) (holders_after (g.P.Positions.rows l.positions) l.issue l.passed);
}

abbrev pub decreases-loop-holder : goal.decreases-loop-holder
decreases-loop-holder g l = length (holders_after (g.P.Positions.rows l.positions) l.issue l.passed)
