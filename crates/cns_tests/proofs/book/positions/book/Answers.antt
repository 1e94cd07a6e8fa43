use Rattle.std.proofs.Common.{arith}
use Rattle.cns_tests.proofs.book.positions.book.Goals as goal

pub add-requires-clause-shares_fit : goal.add-requires-clause-shares_fit
add-requires-clause-shares_fit g c = grind arith

pub add-requires-clause-cents_fit : goal.add-requires-clause-cents_fit
add-requires-clause-cents_fit g c = grind arith
