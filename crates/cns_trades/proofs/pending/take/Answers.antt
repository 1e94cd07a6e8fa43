use Rattle.cns_trades.proofs.Summed.{taken}
use Rattle.cns_trades.proofs.pending.take.Goals as goal

pub returns : goal.returns
returns g c = taken c.args.pend.now _ _ _ _ _ _ _ c.bought_key.ensures c.bought.ensures.exact c.sold_key.ensures c.sold.ensures.exact c.take.ensures.sums c.take-2.ensures.sums
