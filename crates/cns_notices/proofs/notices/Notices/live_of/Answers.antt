use Rattle.cns_notices.proofs.Common.{arith}
use Rattle.cns_notices.proofs.notices.Notices.live_of.Goals as goal

pub overflow_sub-k : goal.overflow_sub-k
overflow_sub-k g c = grind (arith, c.self.invariant.there (c.args.cusip, c.args.member) c.in_ok-k.k)
