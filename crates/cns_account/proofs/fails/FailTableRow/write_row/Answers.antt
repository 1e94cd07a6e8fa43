use Rattle.cns_account.proofs.fails.FailTableRow.write_row.Goals as goal

pub returns : goal.returns
returns c = rw c.fail_cells-cells.ensures at c.write_line.ensures
