-- A call that was interrupted appends nothing.
use Rattle.cns_units.proofs.Common.{Keeps}
use Rattle.cns_units.proofs.output.write_some.Given as goal

abbrev pub invariant-loop : goal.invariant-loop
invariant-loop g l = Keeps (g.W.Write.contents l.initial.writer) (g.W.Write.contents l.writer)
