use Rattle.cns_trades.proofs.Common.{Pend, arith, each_filter, shares_limit, ◌≤◌}
use Rattle.cns_trades.proofs.pending.Pending.settle.Goals as goal

pub invariant_of-self : goal.invariant_of-self
invariant_of-self g c = rw c.keep_later.ensures (record { sums = λ k. grind (arith, c.take_due.ensures k); small = each_filter (λ (p : Pend). p.shares ≤ shares_limit) _ _ c.self.invariant.small })
