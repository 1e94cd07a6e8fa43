use Rattle.cns_history.proofs.Common.{◌≡◌, filter, state_of, has_position, numbers}
use Rattle.cns_history.proofs.everywhere.accounts_in.Given as goal

abbrev pub invariant-loop-number : goal.invariant-loop-number
invariant-loop-number l = l.accounts.items ≡ filter (has_position (state_of l.book.log) l.issue) (numbers l.number)
