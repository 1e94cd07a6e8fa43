use Rattle.std.proofs.Common.{arith}
use Rattle.cns_positions.proofs.SmallSteps.{small_fit}
use Rattle.cns_tests.proofs.growth.maps.steps.Goals as goal

pub returns : goal.returns
returns g c = small_fit _ (omega arith) c.loop-number.invariant
