use Rattle.cns_sheets.proofs.Common.{◌≡◌, ◌++◌, None, length, listed_above}
use Rattle.cns_sheets.proofs.prices.listed.Given as goal

abbrev pub invariant-loop-issue : goal.invariant-loop-issue
invariant-loop-issue g l = listed_above l.prices None ≡ l.list.items ++ listed_above l.prices l.after

abbrev pub decreases-loop-issue : goal.decreases-loop-issue
decreases-loop-issue g l = length (listed_above l.prices l.after)
