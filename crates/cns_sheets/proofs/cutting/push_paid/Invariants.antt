use Rattle.cns_sheets.proofs.Common.{◌≡◌, ◌++◌, length, option_copied, AllByRecursion, IsMarked, lower, past, unheld, woven_rows}
use Rattle.cns_sheets.proofs.cutting.push_paid.Given as goal

abbrev pub invariant-loop-key : goal.invariant-loop-key
invariant-loop-key g l = record {
  rows : l.fn.rows ++ woven_rows l.fn.before l.fn.now (unheld (lower (option_copied l.fn.high) l.fn.paid)) ≡ l.rows ++ woven_rows l.fn.before l.fn.now (unheld (lower (option_copied l.fn.high) l.paid));
  left : past (option_copied l.fn.high) l.paid ≡ past (option_copied l.fn.high) l.fn.paid;
  marked : AllByRecursion IsMarked l.rows;
  before : l.before ≡ l.fn.before;
  now : l.now ≡ l.fn.now;
}

abbrev pub decreases-loop-key : goal.decreases-loop-key
decreases-loop-key g l = length l.paid
