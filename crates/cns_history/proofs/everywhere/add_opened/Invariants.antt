use Rattle.cns_history.proofs.Common.{◌≡◌, ◌++◌, filter_map, map, take, state_of, booked_since, opened_since, place}
use Rattle.cns_history.proofs.everywhere.add_opened.Given as goal

abbrev pub invariant-loop-issue : goal.invariant-loop-issue
invariant-loop-issue l =
    l.lines.items ≡ l.fn.lines.items ++ filter_map (λ k. booked_since l.answered.number (state_of l.book.log) l.answered.activity (opened_since (state_of l.book.log) k))
    (map (place l.account) (take l.issue-index l.issues))
