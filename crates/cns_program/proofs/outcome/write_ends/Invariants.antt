use Rattle.cns_program.proofs.Common.{◌≡◌, ℕ, ◌+◌, List, ◌++◌, drop, Appends, end_lines}
use Rattle.cns_program.proofs.outcome.write_ends.Given as goal

abbrev pub invariant-loop-place : goal.invariant-loop-place
invariant-loop-place g l = (done : List ℕ) × (end_lines 1 l.ends ≡ done ++ end_lines (l.place + 1) (drop l.place l.ends))
    × Appends (g.E.Write.contents l.fn.errors) (g.E.Write.contents l.errors) done
