use Rattle.cns_notices.proofs.Common.{◌-◌, arith, Withdrawn, at_stage}
use Rattle.cns_notices.proofs.Led.{set_led}
use Rattle.cns_notices.proofs.notices.Notices.withdraw.Goals as goal

pub invariant_of-self : goal.invariant_of-self
invariant_of-self g c = grind (arith, set_led c.self.invariant (c.args.k - 1) c.index_mut.result.now (at_stage Withdrawn c.index_mut.result.now))
