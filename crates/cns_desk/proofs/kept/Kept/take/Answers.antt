use Rattle.cns_desk.proofs.kept.Kept.take.Goals as goal

pub returns-clause-ok : goal.returns-clause-ok
returns-clause-ok g c = rw (← c.self.view_is, ← c.seat.view_is) c.in_ok-receipt.ensures.ok
