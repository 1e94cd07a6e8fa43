use Rattle.cns_day.proofs.Common.{◌≡◌, None, get, slice_cmp, fold, nat_cmp, Cusip, with_row_in}
use Rattle.cns_day.proofs.issues.sums_by_issue.Given as goal

abbrev pub invariant-loop-row : goal.invariant-loop-row
invariant-loop-row l = (c : Cusip) → fold (with_row_in c) None l.sheet.rows ≡ fold (with_row_in c) (get (slice_cmp nat_cmp) l.by_issue.sums c) l.row-iterator
