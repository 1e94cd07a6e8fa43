use Rattle.cns_trades.proofs.Summed.{added_both}
use Rattle.cns_trades.proofs.pending.add.Goals as goal

pub returns-clause-sums : goal.returns-clause-sums
returns-clause-sums g c = added_both c.args.pend.now _ _ _ _ _ _ _ c.bought_key.ensures c.bought.ensures.exact c.sold_key.ensures c.sold.ensures.exact c.add.ensures.sums c.add-2.ensures.sums
