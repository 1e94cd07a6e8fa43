use Rattle.cns_prices.proofs.Common.{sym, quote_in}
use Rattle.cns_prices.proofs.Quoted.{not_missing, succeeded}
use Rattle.cns_prices.proofs.prices.Prices.requote.Goals as goal

pub returns : goal.returns
returns g c =
    let there = not_missing (quote_in c.self.inside.issues.entries c.args.cusip) (rw c.self.view_is c.requires) in
    rw (sym c.self.view_is) (succeeded c.insert.result c.insert.ensures.updates c.insert.ensures.absent there).0
