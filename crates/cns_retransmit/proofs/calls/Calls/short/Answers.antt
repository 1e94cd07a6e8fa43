use Rattle.cns_retransmit.proofs.Common.{◌∙◌, sym, refl, called_in, on_ok_weaker}
use Rattle.cns_retransmit.proofs.Calling.{short_more}
use Rattle.cns_retransmit.proofs.calls.Calls.short.Goals as goal

pub returns-clause-ok : goal.returns-clause-ok
returns-clause-ok g c =
    let found = sym c.in-Some.ensures.value in
    let puts = (c.get_mut.follows.holds c.push.new.self).3 (rw found refl) in
    rw (sym c.self.view_is) (on_ok_weaker c.push.result (λ is d. puts.0 d ∙ short_more (called_in c.self.inside.issues.entries) c.args.issue d c.args.short _ _ found is) c.push.ensures.ok)
