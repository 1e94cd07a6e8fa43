use Rattle.cns_sheets.proofs.Added.{Adding}
use Rattle.cns_sheets.proofs.sums.sheet_sums.Given as goal

abbrev pub invariant-loop-row : goal.invariant-loop-row
invariant-loop-row g l = Adding l.initial.row-iterator l.yielded l.row-iterator l.totals
