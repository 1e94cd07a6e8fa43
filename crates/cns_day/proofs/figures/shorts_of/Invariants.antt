use Rattle.cns_day.proofs.Common.{◌≡◌, ◌++◌, ◌-◌, ◌^◌, min, count_by, is_short}
use Rattle.cns_day.proofs.figures.shorts_of.Given as goal

abbrev pub invariant-loop-row : goal.invariant-loop-row
invariant-loop-row l = (l.initial.row-iterator ≡ l.yielded ++ l.row-iterator) × (l.shorts ≡ min (count_by is_short l.yielded) (2 ^ 64 - 1))
