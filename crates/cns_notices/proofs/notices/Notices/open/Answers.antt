use Rattle.cns_notices.proofs.Common.{arith}
use Rattle.cns_notices.proofs.Changing.{opened_led}
use Rattle.cns_notices.proofs.notices.Notices.open.Goals as goal

pub invariant_of-self-2 : goal.invariant_of-self-2
invariant_of-self-2 g c = grind (arith, opened_led c.self.inside.latest c.put.new.self c.self.inside.listed.items (record { member = c.args.member; issue = c.args.cusip; shares = c.args.shares; day = c.args.day }))
