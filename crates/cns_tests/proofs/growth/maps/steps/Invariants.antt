use Rattle.cns_positions.proofs.Common.{AllByRecursion}
use Rattle.cns_positions.proofs.SmallSteps.{IsSmallStep}
use Rattle.cns_tests.proofs.growth.maps.steps.Given as goal

abbrev pub invariant-loop-number : goal.invariant-loop-number
invariant-loop-number g l = AllByRecursion IsSmallStep l.steps.items
