use Rattle.cns_day.proofs.Common.{arith, ◌∙◌, ap, sym, get, slice_cmp, fold, nat_cmp, with_row_in}
use Rattle.cns_day.proofs.issues.sums_by_issue.Goals as goal

pub loop-row-init : goal.loop-row-init
loop-row-init c k = grind (arith)

pub loop-row-preserved : goal.loop-row-preserved
loop-row-preserved c k = grind (arith)

pub returns : goal.returns
returns c k = sym (c.loop-row.invariant k ∙ ap (fold (with_row_in k) (get (slice_cmp nat_cmp) c.loop-row.by_issue.sums k)) c.in-None.ensures.steps.0)
