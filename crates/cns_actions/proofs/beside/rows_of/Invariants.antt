use Rattle.cns_actions.proofs.Common.{◌≡◌, ◌++◌, None, length, held_above}
use Rattle.cns_actions.proofs.beside.rows_of.Given as goal

abbrev pub invariant-loop-row : goal.invariant-loop-row
invariant-loop-row g l = l.rows.items ++ held_above (g.P.Positions.rows l.positions) l.last ≡ held_above (g.P.Positions.rows l.positions) None

abbrev pub decreases-loop-row : goal.decreases-loop-row
decreases-loop-row g l = length (held_above (g.P.Positions.rows l.positions) l.last)
