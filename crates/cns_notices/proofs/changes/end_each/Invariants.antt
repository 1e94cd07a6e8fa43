use Rattle.cns_notices.proofs.Common.{◌≡◌, ◌<◌, ◌≤◌, length, AllByRecursion, ended_each}
use Rattle.cns_notices.proofs.changes.end_each.Given as goal

abbrev pub invariant-loop-number : goal.invariant-loop-number
invariant-loop-number l = record {
  same : ended_each l.number-iterator l.notices ≡ ended_each l.fn.numbers l.fn.notices;
  within : AllByRecursion (λ e. (0 < e.1) × (e.1 ≤ length l.notices)) l.number-iterator;
}
