use Rattle.cns_actions.proofs.Common.{arith, ints}
use Rattle.cns_actions.proofs.conversion.exchange_of.Goals as goal

pub overflow_add-in_lieu : goal.overflow_add-in_lieu
overflow_add-in_lieu c = grind (arith, ints)

pub returns-clause-cents : goal.returns-clause-cents
returns-clause-cents c = grind (arith, ints)

pub returns-clause-few_cents : goal.returns-clause-few_cents
returns-clause-few_cents c = grind (arith, ints)
