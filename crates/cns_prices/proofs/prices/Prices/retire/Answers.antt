use Rattle.cns_prices.proofs.Common.{refl, sym, ◌∙◌}
use Rattle.cns_prices.proofs.Quoted.{repriced, retires}
use Rattle.cns_prices.proofs.prices.Prices.retire.Goals as goal

pub returns-in-Some-clause-price : goal.returns-in-Some-clause-price
returns-in-Some-clause-price g c = repriced _ _ c.args.cusip _ _ c.requote.ensures (sym c.quote.ensures ∙ c.in-Some.is) refl

pub returns-in-Some-clause-retired : goal.returns-in-Some-clause-retired
returns-in-Some-clause-retired g c = retires _ _ c.args.cusip _ c.requote.ensures refl
