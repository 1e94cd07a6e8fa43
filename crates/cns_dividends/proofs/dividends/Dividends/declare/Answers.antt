use Rattle.cns_dividends.proofs.Common.{sym}
use Rattle.cns_dividends.proofs.Places.{declared}
use Rattle.cns_dividends.proofs.dividends.Dividends.declare.Goals as goal

pub invariant_of-self-2 : goal.invariant_of-self-2
invariant_of-self-2 g c = (declared _ _ _ _ c.len.ensures.len c.self.invariant c.in_ok-insert.ensures.entries).0

pub returns-clause-ok : goal.returns-clause-ok
returns-clause-ok g c = rw (sym c.self.view_is) (declared _ _ _ _ c.len.ensures.len c.self.invariant c.in_ok-insert.ensures.entries).1
