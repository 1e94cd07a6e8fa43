use Rattle.cns_actions.proofs.Common.{length, holders_after, holders_of, takes_beyond, with_position}
use Rattle.cns_actions.proofs.Summing.{AddsUp}
use Rattle.cns_actions.proofs.acting.sum_of.Given as goal

abbrev pub invariant-loop-holder : goal.invariant-loop-holder
invariant-loop-holder g l =
    let R = g.P.Positions.rows l.positions in
    AddsUp l.action (takes_beyond R l.pending l.action) (holders_of l.action R) l.sum (with_position (holders_after R l.issue l.passed))

abbrev pub decreases-loop-holder : goal.decreases-loop-holder
decreases-loop-holder g l = length (holders_after (g.P.Positions.rows l.positions) l.issue l.passed)
