use Rattle.std.proofs.Common.{arith}
use Rattle.cns_tests.proofs.book.comparisons.turn_share.Goals as goal

pub add_counted-requires-clause-shares_fit : goal.add_counted-requires-clause-shares_fit
add_counted-requires-clause-shares_fit c = grind arith

pub add_counted-requires-clause-cents_fit : goal.add_counted-requires-clause-cents_fit
add_counted-requires-clause-cents_fit c = grind arith
