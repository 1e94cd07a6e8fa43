use Rattle.cns_program.proofs.Common.{◌≡◌, pos}
use Rattle.cns_program.proofs.tally.totals_of.Given as goal

abbrev pub invariant-loop-item : goal.invariant-loop-item
invariant-loop-item l = (l.marks ≡ pos 0) × (l.dividends ≡ pos 0)
