use Rattle.cns_notices.proofs.Common.{◌-◌, arith, slice_get_read}
use Rattle.cns_notices.proofs.Items.{set_is}
use Rattle.cns_notices.proofs.Led.{live_within, received_is, set_led}
use Rattle.cns_notices.proofs.notices.Notices.received.Goals as goal

pub invariant_of-self : goal.invariant_of-self
invariant_of-self g c = grind (arith, live_within, set_led c.self.invariant (c.in-Some.k - 1) c.index_mut.result.now c.receive.new.self)

pub overflow_sub-k : goal.overflow_sub-k
overflow_sub-k g c = grind (arith, live_within c.args.self.now c.args.member c.args.cusip c.in-Some.k)

pub receive-requires : goal.receive-requires
receive-requires g c = grind (arith, live_within, slice_get_read, c.requires.fits c.in-Some.k)

pub returns-in-Some : goal.returns-in-Some
returns-in-Some g c = grind (arith, live_within, received_is c.self.invariant, set_is)

pub returns-in_default : goal.returns-in_default
returns-in_default g c = grind (arith, received_is c.self.invariant)
