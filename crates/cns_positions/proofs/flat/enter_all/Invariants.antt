use Rattle.cns_positions.proofs.Entering.{Entered}
use Rattle.cns_positions.proofs.flat.enter_all.Given as goal

abbrev pub invariant-loop-key : goal.invariant-loop-key
invariant-loop-key g l = Entered l.fn.rows.items l.rows.items l.keys l.key-index
