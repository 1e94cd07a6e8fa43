use Rattle.cns_statements.proofs.Common.{◌≡◌, ℕ, List, ◌++◌, Appends, rows_text}
use Rattle.cns_statements.proofs.text.write_rows.Given as goal

abbrev pub invariant-loop-row : goal.invariant-loop-row
invariant-loop-row g l = (done : List ℕ) × (rows_text l.initial.row-iterator ≡ done ++ rows_text l.row-iterator)
    × Appends (g.W.Write.contents l.fn.writer) (g.W.Write.contents l.writer) done
