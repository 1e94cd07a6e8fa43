use Rattle.cns_actions.proofs.Common.{arith, ◌≡◌, ◌∙◌, ◌++◌, refl, unsigned_abs, ◌≤◌, bookings_for, corporation, has_position_or_age, holding_at, oldest_of, opposite, position_limit}
use Rattle.cns_actions.proofs.BookingOrder.{small_bookings}
use Rattle.cns_actions.proofs.ByAccount.{each_listed, place}
use Rattle.cns_actions.proofs.Skipping.{all_left}
use Rattle.std.proofs.Common.{append_assoc}
use Rattle.cns_actions.proofs.acting.all_bookings.Goals as goal

pub loop-holder-init : goal.loop-holder-init
loop-holder-init g c =
    let R = g.P.Positions.rows c.args.positions.now in
    let x = c.args.action.now in
    let i = c.issue_of-issue.result in
    let n = oldest_of (holding_at R (place i corporation)) in
    let made : c.push_change.new.bookings.items ≡ bookings_for x corporation (opposite c.args.sum.now) n =
    c.in_ok-push_change.ensures ∙ (λ j. c.new-bookings.ensures.items j ++ bookings_for x corporation (c.opposite.ensures.exact j) (c.corporation_age.ensures j)) in
    rw (made, all_left R c.requires.order i) (record {
      bookings = refl;
      small = small_bookings x corporation (opposite c.args.sum.now) n (rw c.opposite.ensures.exact at c.opposite.ensures.few);
      within = each_listed has_position_or_age refl i R c.requires.order (λ h. unsigned_abs h.shares ≤ position_limit) (λ a le held. c.requires.within.members a i le);
    })

pub loop-holder-preserved : goal.loop-holder-preserved
loop-holder-preserved g c = grind (arith, append_assoc)
