use Rattle.cns_day.proofs.Common.{◌≡◌, ◌++◌, ◌-◌, ◌^◌, min, sum_by, unsigned_abs}
use Rattle.cns_day.proofs.figures.marks_of.Given as goal

abbrev pub invariant-loop-row : goal.invariant-loop-row
invariant-loop-row l = (l.initial.row-iterator ≡ l.yielded ++ l.row-iterator) × (l.marks ≡ min (sum_by (λ r. unsigned_abs r.mark) l.yielded) (2 ^ 128 - 1))
