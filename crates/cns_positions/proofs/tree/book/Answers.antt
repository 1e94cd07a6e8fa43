use Rattle.cns_positions.proofs.Common.{◌≡◌, arith, rules, to_z-of_z, holding_at, key_cmp, put}
use Rattle.std.proofs.lemmas.Int.{wraps}
use Rattle.cns_positions.proofs.Changes.{changed_at}
use Rattle.cns_positions.proofs.Holdings.{booked_put, other_row, places_put, with_booked}
use Rattle.cns_positions.proofs.tree.book.Given
use Rattle.cns_positions.proofs.tree.book.Goals as goal

pub change_counted-requires : goal.change_counted-requires
change_counted-requires g c = grind (arith, to_z-of_z)

is_put : (g : Given.Over) (c : goal.After-change_counted g) → c.change_counted.new.self ≡ put key_cmp c.args.probe.now.0 (with_booked (holding_at c.args.rows.now c.args.probe.now.0) c.args.shares c.args.cents) c.args.rows.now
is_put g c = changed_at (λ h. with_booked h c.args.shares c.args.cents) c.args.rows.now c.change_counted.new.self c.args.probe.now.0 c.requires.there (λ v w p. search (rules, wraps)) c.change_counted.ensures.rows

pub returns-clause-places : goal.returns-clause-places
returns-clause-places g c k = rw (is_put g c) (places_put _ _ _ c.requires.there k)

pub returns-clause-others : goal.returns-clause-others
returns-clause-others g c k apart = rw (is_put g c) (other_row _ _ _ _ apart)

pub returns-clause-booked : goal.returns-clause-booked
returns-clause-booked g c k = rw (is_put g c) (booked_put _ _ _ _ k)
