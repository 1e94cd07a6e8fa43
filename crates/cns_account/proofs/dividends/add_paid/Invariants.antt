use Rattle.cns_account.proofs.Common.{◌≡◌, ◌++◌, filter_map, take, state_of, paid_in}
use Rattle.cns_account.proofs.dividends.add_paid.Given as goal

abbrev pub invariant-loop-declared : goal.invariant-loop-declared
invariant-loop-declared l =
    l.rows.items ≡ l.fn.rows.items ++ filter_map (paid_in (state_of l.book.log) l.days l.account l.issue) (take l.declared-index l.due)
