use Rattle.cns_statements.proofs.Common.{◌≡◌, map, take, statement_on}
use Rattle.cns_statements.proofs.packing.make.Given as goal

abbrev pub invariant-loop-account : goal.invariant-loop-account
invariant-loop-account g l = l.made.items ≡ map (statement_on l.sheet) (take l.account-index l.accounts)
