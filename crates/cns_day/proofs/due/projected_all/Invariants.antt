use Rattle.cns_day.proofs.Common.{◌≡◌, ◌++◌, length, state_of, projected_all}
use Rattle.cns_sheets.specs.Search.{prices_above}
use Rattle.cns_day.proofs.due.projected_all.Given as goal

abbrev pub invariant-loop-issue : goal.invariant-loop-issue
invariant-loop-issue l =
    let S = state_of l.book.log in
    projected_all S l.account l.later l.sheet.prices ≡ l.rows.items ++ projected_all S l.account l.later (prices_above l.sheet.prices l.after)

abbrev pub decreases-loop-issue : goal.decreases-loop-issue
decreases-loop-issue l = length (prices_above l.sheet.prices l.after)
