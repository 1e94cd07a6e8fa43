use Rattle.cns_history.proofs.Common.{◌≡◌, ◌++◌, filter_map, map, take, flat_map, state_of, booked_since, opened_since, place}
use Rattle.cns_history.proofs.everywhere.add_each_opened.Given as goal

abbrev pub invariant-loop-account : goal.invariant-loop-account
invariant-loop-account l =
    l.lines.items ≡ l.fn.lines.items ++ filter_map (λ k. booked_since l.answered.number (state_of l.book.log) l.answered.activity (opened_since (state_of l.book.log) k))
    (flat_map (λ a. map (place a) l.issues) (take l.account-index l.accounts))
