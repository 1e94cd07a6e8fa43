use Rattle.cns_trades.proofs.Common.{Some, more, sym}
use Rattle.cns_trades.proofs.Summed.{at_found, has_put, put_at}
use Rattle.cns_trades.proofs.sides.SideSums.add.Goals as goal

pub more-requires-clause-bought : goal.more-requires-clause-bought
more-requires-clause-bought g c = rw (at_found _ c.args.key _ (sym c.in-Some.ensures.value)) at (rw (sym c.self.view_is) at c.requires.bought)

pub more-requires-clause-sold : goal.more-requires-clause-sold
more-requires-clause-sold g c = rw (at_found _ c.args.key _ (sym c.in-Some.ensures.value)) at (rw (sym c.self.view_is) at c.requires.sold)

pub returns-clause-sums : goal.returns-clause-sums
returns-clause-sums g c = rw (sym c.self.view_is) (put_at (λ s. more s c.args.other.now) _ _ c.args.key (Some c.more.result) ((c.get_mut.follows.holds c.more.result).3 (cc c.in-Some.ensures.value)).0 (cc (at_found _ c.args.key _ (sym c.in-Some.ensures.value))))

pub returns-clause-others : goal.returns-clause-others
returns-clause-others g c = rw (sym c.self.view_is) (has_put _ _ c.args.key c.more.result ((c.get_mut.follows.holds c.more.result).3 (cc c.in-Some.ensures.value)).0)
