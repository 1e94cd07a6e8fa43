use Rattle.cns_day.proofs.Common.{arith}
use Rattle.cns_sheets.proofs.RowSums.{onward}
use Rattle.std.proofs.lemmas.List.Sums.{sum_by-append}
use Rattle.cns_day.proofs.figures.marks_of.Goals as goal

pub loop-row-preserved : goal.loop-row-preserved
loop-row-preserved c = grind (arith, onward, sum_by-append)
