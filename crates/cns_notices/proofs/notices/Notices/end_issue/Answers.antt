use Rattle.cns_notices.proofs.Common.{[], arith, ended, slice_get-map, take_at}
use Rattle.cns_notices.proofs.Changing.{ends_issue, within_all}
use Rattle.cns_notices.proofs.Led.{kept}
use Rattle.cns_notices.proofs.notices.Notices.end_issue.Goals as goal

pub invariant_of-self : goal.invariant_of-self
invariant_of-self g c = kept (λ i. ended c.args.cusip) _ c.self.invariant (λ i. grind (arith, take_at, ends_issue, slice_get-map (ended c.args.cusip) c.self.inside.listed.items i)) (λ i x at. grind arith)

pub end_each-requires : goal.end_each-requires
end_each-requires g c = rw c.as_mut_slice.ensures.value (within_all c.args.cusip _ _ c.self.invariant _ c.in-Some.ensures.found)

pub returns-in-Some : goal.returns-in-Some
returns-in-Some g c = grind (arith, take_at, ends_issue)

pub returns-in_default : goal.returns-in_default
returns-in_default g c = grind (arith, ends_issue c.args.cusip c.self.inside.latest c.self.inside.listed.items c.self.invariant [])
