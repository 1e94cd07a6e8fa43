use Rattle.cns_statements.proofs.Common.{err_from_is_err_and, parts_failed, parts_more, row_line}
use Rattle.cns_statements.proofs.text.write_kept.Goals as goal

pub loop-row-preserved : goal.loop-row-preserved
loop-row-preserved g c =
    let inv = c.loop-row.invariant in
    parts_more _ _ _ row_line _ _ c.row-item.result inv.0 c.loop-row-test.true inv.1 inv.2 (rw (← c.row-item.is) c.in_ok-write_row.ensures)

pub returns-in_err-write_row : goal.returns-in_err-write_row
returns-in_err-write_row g c =
    let inv = c.loop-row.invariant in
    rw (err_from_is_err_and c.from_residual.result c.from_residual.ensures.1).1 (parts_failed _ _ _ row_line _ _ c.row-item.result inv.0 c.loop-row-test.true inv.1 inv.2 (rw (← c.row-item.is) c.in_err-write_row.ensures))
