use Rattle.cns_desk.proofs.Common.{◌≤◌, ℕ, count, SameAt}
use Rattle.cns_desk.proofs.auditing.first_difference.Given as goal

-- the places so far are the same
abbrev pub invariant-loop-at : goal.invariant-loop-at
invariant-loop-at g l = record {
  inside : l.at ≤ count l.book.log.history l.worker;
  same : (k : ℕ) → 1 ≤ k → k ≤ l.at → SameAt l.book.log l.worker l.items k;
}
