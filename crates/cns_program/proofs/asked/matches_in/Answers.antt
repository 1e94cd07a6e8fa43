use Rattle.cns_program.proofs.Common.{arith}
use Rattle.cns_program.proofs.CommandLine.{line_is_free, line_is_simple}
use Rattle.cns_program.proofs.asked.matches_in.Goals as goal

pub matches_of-requires-clause-simple : goal.matches_of-requires-clause-simple
matches_of-requires-clause-simple g c = grind (arith, line_is_simple)

pub matches_of-requires-clause-free : goal.matches_of-requires-clause-free
matches_of-requires-clause-free g c = grind (arith, line_is_free)
