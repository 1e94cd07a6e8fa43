use Rattle.cns_actions.proofs.Common.{◌≡◌, ◌∙◌, subst, take, take_all, true, All-more, All-weaker, recursion_from_All, Booking, has_row, entry_key}
use Rattle.cns_actions.proofs.Making.{elsewhere_at, others_stay}
use Rattle.cns_actions.proofs.bookings.enter_all.Goals as goal

pub loop-booking-preserved : goal.loop-booking-preserved
loop-booking-preserved g c =
    let l = c.loop-booking in
    let bs = c.args.bookings.now in
    let b = c.booking-item.result in
    let new = g.P.Positions.rows c.enter.new.self in
    record {
      same = λ k. c.enter.ensures.same k ∙ l.invariant.same k;
      others = λ k e. others_stay _ _ k (c.enter.ensures.others k (rw (← c.key.ensures) at (elsewhere_at k bs l.booking-index b c.loop-booking-test.true c.booking-item.is e))) ∙ l.invariant.others k e;
      there = All-more (λ (b : Booking). has_row new (entry_key b.entry) ≡ true) bs l.booking-index b c.loop-booking-test.true (All-weaker _ _ (λ b h. c.enter.ensures.kept (entry_key b.entry) h) (take l.booking-index bs) l.invariant.there)
          (subst (λ (b : Booking). has_row new (entry_key b.entry) ≡ true) c.booking-item.is (rw c.key.ensures at c.in_ok-enter.ensures.ok));
    }

pub returns-clause-there : goal.returns-clause-there
returns-clause-there g c = recursion_from_All _ c.args.bookings.now (rw (take_all c.loop-booking.booking-index c.args.bookings.now c.loop-booking-test.false) at c.loop-booking.invariant.there)
