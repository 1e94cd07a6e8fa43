use Rattle.cns_actions.proofs.Common.{AreElsewhere, sym, subst}
use Rattle.cns_actions.proofs.due_bookings.bookings_due.Goals as goal

pub returns-clause-others : goal.returns-clause-others
returns-clause-others g c = λ k apart. subst (AreElsewhere k) (sym c.of.ensures) (c.in_ok-listed.ensures.others k apart)
