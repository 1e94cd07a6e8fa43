use Rattle.cns_trades.proofs.Common.{◌≡◌, ◌++◌, drop, filter, not, take, Key, is_due, sides_at, sides_of}
use Rattle.cns_trades.proofs.pending.take_due.Given as goal

-- the sums are those of the trades that were kept so far and of those that are left
abbrev pub invariant-loop-pend : goal.invariant-loop-pend
invariant-loop-pend g l = (k : Key) → sides_at l.sums k ≡ sides_of (filter (λ p. not (is_due l.next p)) (take l.pend-index l.trades) ++ drop l.pend-index l.trades) k
