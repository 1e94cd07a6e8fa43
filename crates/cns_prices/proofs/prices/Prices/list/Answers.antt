use Rattle.cns_prices.proofs.Common.{◌≡◌, sym, None, price_in, arith}
use Rattle.cns_prices.proofs.Quoted.{priced, unmarked}
use Rattle.cns_prices.proofs.prices.Prices.list.Goals as goal

pub returns-clause-price : goal.returns-clause-price
returns-clause-price g c = rw (sym c.self.view_is) (priced c.self.inside.issues.entries c.insert.new.self.entries c.args.cusip _ c.in_ok-insert.ensures.updates.0)

pub returns-clause-retired : goal.returns-clause-retired
returns-clause-retired g c = rw (sym c.self.view_is) (unmarked c.self.inside.issues.entries c.insert.new.self.entries c.args.cusip _ c.in_ok-insert.ensures.updates.0
    (let none : price_in c.self.inside.issues.entries c.args.cusip ≡ None = rw c.self.view_is c.requires in grind (arith, none)))
