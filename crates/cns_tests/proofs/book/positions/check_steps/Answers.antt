use Rattle.std.proofs.Common.{arith, rules}
use Rattle.cns_positions.proofs.SmallSteps.{small_fit}
use Rattle.cns_tests.proofs.book.positions.check_steps.Goals as goal

pub run-requires : goal.run-requires
run-requires g c = small_fit _ (omega arith) (search rules)
