use Rattle.cns_retransmit.proofs.Common.{◌≡◌, Some, CalledIn, CanBeChosen, Cusip, ForSome, called_in, each_weaker, recursion_from_All}
use Rattle.cns_retransmit.proofs.calls.Calls.choose.Goals as goal

pub choose_each-requires : goal.choose_each-requires
choose_each-requires g c =
    let es = c.self.inside.issues.entries in
    let can : (d : Cusip) → ForSome (called_in es d) CanBeChosen = rw c.self.view_is c.requires in
    rw c.iter.ensures.rest (each_weaker (λ (e : Cusip × CalledIn). called_in es e.0 ≡ Some e.1) _ es (λ e. can e.0 e.1) (recursion_from_All _ es c.iter.ensures.found))
