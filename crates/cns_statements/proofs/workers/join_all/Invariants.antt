use Rattle.cns_statements.proofs.Common.{◌≡◌, ◌++◌, vec_len, told}
use Rattle.cns_statements.proofs.workers.join_all.Given as goal

-- what was joined and what is left are all
abbrev pub invariant-joining : goal.invariant-joining
invariant-joining g l = l.all.items ++ told l.handles.items ≡ told l.fn.handles.items

abbrev pub decreases-joining : goal.decreases-joining
decreases-joining g l = vec_len l.handles
