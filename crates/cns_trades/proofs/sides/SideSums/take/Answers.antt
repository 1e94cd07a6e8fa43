use Rattle.cns_trades.proofs.Common.{None, Some, less, sym}
use Rattle.cns_trades.proofs.Summed.{none_taken, put_at}
use Rattle.cns_trades.proofs.sides.SideSums.take.Goals as goal

pub returns-then-is_none-clause-sums : goal.returns-then-is_none-clause-sums
returns-then-is_none-clause-sums g c = rw (sym c.self.view_is) (put_at (λ s. less s c.args.other.now) _ _ c.args.key None c.remove.ensures.updates.0 (cc (c.is_none.ensures.0 c.if-is_none.true)))

pub returns-in_default-clause-sums : goal.returns-in_default-clause-sums
returns-in_default-clause-sums g c = rw (c.get_mut.follows.holds-at-none, sym c.self.view_is) (none_taken _ c.args.key c.args.other.now (sym c.in_default.ensures.value) (rw c.self.view_is c.requires.bought) (rw c.self.view_is c.requires.sold))

pub returns-clause-sums : goal.returns-clause-sums
returns-clause-sums g c = rw (sym c.self.view_is) (put_at (λ s. less s c.args.other.now) _ _ c.args.key (Some c.less-left.result) ((c.get_mut.follows.holds c.less-left.result).3 (cc c.in-Some.ensures.value)).0 (cc))
