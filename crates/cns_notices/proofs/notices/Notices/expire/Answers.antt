use Rattle.cns_notices.proofs.Common.{arith, take_at, expired, slice_get-map}
use Rattle.cns_notices.proofs.Changing.{none_expired}
use Rattle.cns_notices.proofs.Led.{kept}
use Rattle.cns_notices.proofs.notices.Notices.expire.Goals as goal

pub invariant_of-self : goal.invariant_of-self
invariant_of-self g c = kept (λ i. expired c.args.day) _ c.self.invariant (λ i. grind (arith, take_at, slice_get-map (expired c.args.day) c.self.inside.listed.items i)) (λ i x at. grind arith)

pub returns-in-Some : goal.returns-in-Some
returns-in-Some g c = grind (arith, take_at)

pub returns-in_default : goal.returns-in_default
returns-in_default g c = grind (arith, none_expired)
