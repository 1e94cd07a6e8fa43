use Rattle.cns_exceptions.proofs.Common.{◌≡◌, map, counted, counts_below}
use Rattle.cns_exceptions.proofs.counts.counts_of.Given as goal

abbrev pub invariant-loop-number : goal.invariant-loop-number
invariant-loop-number l = map counted l.counts.items ≡ counts_below l.number l.reasons
