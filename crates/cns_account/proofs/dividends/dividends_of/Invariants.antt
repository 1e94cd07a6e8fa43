use Rattle.cns_account.proofs.Common.{◌≡◌, ◌++◌, List, filter_map, length, Cusip, Price, state_of, prices_above, due_on, paid_in, flat_map}
use Rattle.cns_account.specs.declared.dividends.PaidDividend.{PaidDividend}
use Rattle.cns_account.proofs.dividends.dividends_of.Given as goal

abbrev pub invariant-loop-issue : goal.invariant-loop-issue
invariant-loop-issue l =
    let paid : Cusip × Price → List PaidDividend = λ e. filter_map (paid_in (state_of l.book.log) l.past.days.items l.account e.0) (due_on l.past l.sheet.date) in
    flat_map paid l.sheet.prices ≡ l.rows.items ++ flat_map paid (prices_above l.sheet.prices l.after)

abbrev pub decreases-loop-issue : goal.decreases-loop-issue
decreases-loop-issue l = length (prices_above l.sheet.prices l.after)
