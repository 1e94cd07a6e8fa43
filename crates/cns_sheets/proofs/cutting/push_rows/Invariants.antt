use Rattle.cns_sheets.proofs.Common.{◌≡◌, ◌++◌, None, drop, AllByRecursion, HasSmallCents, IsMarked, Rows, last_of, present, weave, woven_rows}
use Rattle.cns_sheets.proofs.cutting.push_rows.Given as goal

abbrev pub invariant-loop-held : goal.invariant-loop-held
invariant-loop-held g l = record {
  rows : (rest : Rows) → l.fn.rows ++ woven_rows l.fn.before l.fn.now (weave (present l.held-items ++ rest) l.fn.paid) ≡ l.rows ++ woven_rows l.before l.now (weave (present (drop l.held-index l.held-items) ++ rest) l.paid);
  last : last_of l.last (present (drop l.held-index l.held-items)) ≡ last_of None (present l.held-items);
  small : AllByRecursion HasSmallCents (present (drop l.held-index l.held-items));
  marked : AllByRecursion IsMarked l.rows;
  before : l.before ≡ l.fn.before;
  now : l.now ≡ l.fn.now;
}
