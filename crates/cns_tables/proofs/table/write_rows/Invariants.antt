use Rattle.cns_tables.proofs.Common.{◌≡◌, ◌++◌, take, flat_map}
use Rattle.cns_tables.proofs.table.write_rows.Given as goal

abbrev pub invariant-loop-row : goal.invariant-loop-row
invariant-loop-row g l = l.out.items ≡ l.fn.out.items ++ flat_map g.T.TableRow.text (take l.row-index l.rows)
