use Rattle.cns_day.proofs.Common.{◌≡◌, ◌++◌, lines_after, sheet_lines}
use Rattle.cns_day.proofs.summary.lines_of.Given as goal

abbrev pub invariant-loop-row : goal.invariant-loop-row
invariant-loop-row l = sheet_lines l.sheet l.moves ≡ l.lines.items ++ lines_after l.sheet l.moves l.before l.row-iterator
