use Rattle.cns_actions.proofs.Common.{◌≡◌, length, held_above, holders_after}
use Rattle.cns_actions.proofs.holder.next_holder.Given as goal

abbrev pub invariant-loop-row : goal.invariant-loop-row
invariant-loop-row g l = holders_after (g.P.Positions.rows l.positions) l.issue l.fn.passed ≡ holders_after (g.P.Positions.rows l.positions) l.issue l.passed

abbrev pub decreases-loop-row : goal.decreases-loop-row
decreases-loop-row g l = length (held_above (g.P.Positions.rows l.positions) l.passed)
