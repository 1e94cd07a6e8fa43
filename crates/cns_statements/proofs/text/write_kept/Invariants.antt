use Rattle.cns_statements.proofs.Common.{◌≡◌, ℕ, List, ◌++◌, drop, Appends, rows_text}
use Rattle.cns_statements.proofs.text.write_kept.Given as goal

abbrev pub invariant-loop-row : goal.invariant-loop-row
invariant-loop-row g l = (done : List ℕ) × (rows_text l.rows ≡ done ++ rows_text (drop l.row-index l.rows))
    × Appends (g.W.Write.contents l.fn.writer) (g.W.Write.contents l.writer) done
