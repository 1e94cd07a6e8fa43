use Rattle.cns_sheets.proofs.Common.{append-nil, arith}
use Rattle.cns_sheets.proofs.cutting.push_row.Goals as goal

pub returns-then-is_silent-clause-rows : goal.returns-then-is_silent-clause-rows
returns-then-is_silent-clause-rows g c = grind (arith, append-nil, c.is_silent.ensures c.args.key.now 0 0)

pub returns-clause-rows : goal.returns-clause-rows
returns-clause-rows g c = grind (arith, c.is_silent.ensures c.args.key.now 0 0)
