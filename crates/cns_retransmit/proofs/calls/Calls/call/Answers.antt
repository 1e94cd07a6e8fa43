use Rattle.cns_retransmit.proofs.Common.{sym, refl, arith, is_eq-slice_cmp}
use Rattle.cns_retransmit.proofs.calls.Calls.call.Goals as goal

pub add-requires : goal.add-requires
add-requires g c = rw (sym c.self.view_is, ← c.in-Some.ensures.value) at c.requires.fits

pub returns-in-Some-clause-ok : goal.returns-in-Some-clause-ok
returns-in-Some-clause-ok g c =
    let puts = (c.get_mut.follows.holds c.add.new.self).3 (rw (sym c.in-Some.ensures.value) refl) in
    rw (sym c.self.view_is) (λ d. grind (arith, puts.0 d, is_eq-slice_cmp c.args.issue d))
