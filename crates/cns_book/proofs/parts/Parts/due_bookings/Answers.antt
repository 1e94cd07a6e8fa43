use Rattle.cns_book.proofs.parts.Parts.due_bookings.Goals as goal

pub returns-clause-others : goal.returns-clause-others
returns-clause-others g c = rw (← c.self.view_is) (λ k apart. c.in_ok-bookings_due.ensures.others k (rw c.pending-pending.ensures apart))
