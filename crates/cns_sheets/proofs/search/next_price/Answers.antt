use Rattle.cns_sheets.proofs.Searched.{price_at}
use Rattle.cns_sheets.proofs.search.next_price.Goals as goal

pub returns : goal.returns
returns c = rw c.copied.ensures (price_at c.args.prices.now c.args.after c.past.result c.get.result c.requires c.past.ensures.above c.get.ensures.lookup.3)
