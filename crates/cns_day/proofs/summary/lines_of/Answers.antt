use Rattle.cns_day.proofs.Gathered.{lines_end, lines_more}
use Rattle.cns_day.proofs.summary.lines_of.Goals as goal

pub loop-row-preserved : goal.loop-row-preserved
loop-row-preserved c = lines_more _ _ _ _ _ _ _ c.in-Some.row _ c.in-Some.ensures.steps c.in_ok-push_row.ensures c.loop-row.invariant

pub returns : goal.returns
returns c = lines_end _ _ _ _ _ _ c.in-None.ensures.steps.0 c.loop-row.invariant
