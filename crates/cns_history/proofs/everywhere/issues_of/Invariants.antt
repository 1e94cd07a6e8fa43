use Rattle.cns_history.proofs.Common.{◌≡◌, ◌++◌, length, map, prices_above}
use Rattle.cns_history.proofs.everywhere.issues_of.Given as goal

abbrev pub invariant-loop-issue : goal.invariant-loop-issue
invariant-loop-issue l = map (λ e. e.0) l.sheet.prices ≡ l.issues.items ++ map (λ e. e.0) (prices_above l.sheet.prices l.after)

abbrev pub decreases-loop-issue : goal.decreases-loop-issue
decreases-loop-issue l = length (prices_above l.sheet.prices l.after)
