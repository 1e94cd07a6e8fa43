use Rattle.cns_day.proofs.Common.{◌≡◌, ◌-◌, take, journal_of, notices, state_of, live_among}
use Rattle.cns_day.proofs.notices.live_notices.Given as goal

abbrev pub invariant-loop-number : goal.invariant-loop-number
invariant-loop-number l = let J = journal_of (state_of l.book.log) in l.live.items ≡ live_among J (take (l.number - 1) (notices J))
