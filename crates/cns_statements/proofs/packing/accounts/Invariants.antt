use Rattle.cns_statements.proofs.Common.{◌≡◌, ◌++◌, accounts_after, accounts_of}
use Rattle.cns_statements.proofs.packing.accounts.Given as goal

abbrev pub invariant-loop-row : goal.invariant-loop-row
invariant-loop-row l = accounts_of l.initial.row-iterator ≡ l.accounts.items ++ accounts_after l.before l.row-iterator
