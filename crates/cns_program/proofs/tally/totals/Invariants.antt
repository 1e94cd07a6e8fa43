use Rattle.cns_program.proofs.Common.{◌≡◌, pos}
use Rattle.cns_program.proofs.tally.totals.Given as goal

abbrev pub invariant-loop-log : goal.invariant-loop-log
invariant-loop-log l = (l.marks ≡ pos 0) × (l.dividends ≡ pos 0)
