use Rattle.cns_sheets.proofs.Common.{◌≡◌, ◌++◌, None, length, AllByRecursion, IsMarked, held_above, weave, woven_rows}
use Rattle.cns_sheets.proofs.cutting.collect.Given as goal

abbrev pub invariant-loop-rows : goal.invariant-loop-rows
invariant-loop-rows g l = record {
  done : woven_rows l.fn.before l.fn.now (weave (held_above (g.P.Positions.rows l.positions) None) l.fn.paid) ≡ l.rows ++ woven_rows l.before l.now (weave (held_above (g.P.Positions.rows l.positions) l.after) l.paid);
  marked : AllByRecursion IsMarked l.rows;
}

abbrev pub decreases-loop-rows : goal.decreases-loop-rows
decreases-loop-rows g l = length (held_above (g.P.Positions.rows l.positions) l.after)
