use Rattle.cns_trades.proofs.Common.{arith, nat_tests}
use Rattle.cns_trades.proofs.references.References.turn_to.Goals as goal

pub returns-clause-same : goal.returns-clause-same
returns-clause-same g c p = grind (arith, nat_tests, c.in_ok-insert.ensures.updates.0 p)
