use Rattle.cns_day.proofs.Common.{◌≡◌, ◌++◌, map, later_among}
use Rattle.cns_day.specs.Listed.{due}
use Rattle.cns_day.proofs.projection.gather.Given as goal

abbrev pub invariant-loop-entry : goal.invariant-loop-entry
invariant-loop-entry l = (l.initial.entry-iterator ≡ l.yielded ++ l.entry-iterator) × (l.trades.items ≡ map (due l.next) (later_among l.day l.yielded))
