use Rattle.cns_exceptions.proofs.Common.{◌∙◌, refl, sym}
use Rattle.cns_exceptions.proofs.facts.exchanged.Goals as goal

pub returns : goal.returns
returns c log = (refl, c.in_ok-issue.field-0, sym c.exchange_of.ensures ∙ c.in_ok-exchange_of.was)
