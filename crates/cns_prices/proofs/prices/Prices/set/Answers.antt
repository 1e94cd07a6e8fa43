use Rattle.cns_prices.proofs.Common.{arith, sym}
use Rattle.cns_prices.proofs.Quoted.{priced, unmarked}
use Rattle.cns_prices.proofs.prices.Prices.set.Goals as goal

pub requote-requires : goal.requote-requires
requote-requires g c = grind (arith, c.requires.listed)

pub returns-clause-price : goal.returns-clause-price
returns-clause-price g c = priced _ _ c.args.cusip _ c.requote.ensures

pub returns-clause-retired : goal.returns-clause-retired
returns-clause-retired g c = unmarked _ _ c.args.cusip _ c.requote.ensures (sym c.requires.current)
