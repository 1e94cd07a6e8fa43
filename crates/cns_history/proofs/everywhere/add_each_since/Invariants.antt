use Rattle.cns_history.proofs.Common.{◌≡◌, ◌++◌, filter_map, take, state_of, booked_since}
use Rattle.cns_history.proofs.everywhere.add_each_since.Given as goal

abbrev pub invariant-loop-stood : goal.invariant-loop-stood
invariant-loop-stood l =
    l.lines.items ≡ l.fn.lines.items ++ filter_map (booked_since l.answered.number (state_of l.book.log) l.answered.activity) (take l.stood-index l.before)
