use Rattle.cns_positions.proofs.Common.{◌≡◌, ◌++◌, drop, holding_at, nowhere, SumsFit, replies}
use Rattle.cns_positions.proofs.steps.run.Given as goal

abbrev pub invariant-loop-step : goal.invariant-loop-step
invariant-loop-step g l = record {
  done : replies nowhere l.steps ≡ l.holdings.items ++ replies (holding_at (g.P.Positions.rows l.positions)) (drop l.step-index l.steps);
  fits : SumsFit (holding_at (g.P.Positions.rows l.positions)) (drop l.step-index l.steps);
}
