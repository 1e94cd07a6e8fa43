use Rattle.cns_program.proofs.Common.{◌≡◌, ℕ, List, ◌++◌, drop, Appends, statements_text}
use Rattle.cns_program.proofs.stating.write_all.Given as goal

abbrev pub invariant-loop-statement : goal.invariant-loop-statement
invariant-loop-statement g l = (done : List ℕ) × (statements_text l.statements ≡ done ++ statements_text (drop l.statement-index l.statements))
    × Appends (g.O.Write.contents l.fn.output) (g.O.Write.contents l.output) done
