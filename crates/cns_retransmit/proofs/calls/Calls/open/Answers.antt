use Rattle.cns_retransmit.proofs.Common.{sym, is_eq-slice_cmp}
use Rattle.cns_retransmit.proofs.calls.Calls.open.Goals as goal

pub returns-clause-ok : goal.returns-clause-ok
returns-clause-ok g c = rw (sym c.self.view_is) (λ d. rw (← is_eq-slice_cmp c.args.issue d, ← c.new-called.ensures) (c.in_ok-insert.ensures.updates.0 d))
