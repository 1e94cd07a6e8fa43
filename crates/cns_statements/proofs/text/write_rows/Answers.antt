use Rattle.cns_statements.proofs.Common.{err_from_is_err_and, row_line}
use Rattle.cns_units.proofs.Parts.{given_more, given_failed}
use Rattle.cns_statements.proofs.text.write_rows.Goals as goal

pub loop-row-preserved : goal.loop-row-preserved
loop-row-preserved g c =
    let inv = c.loop-row.invariant in
    given_more _ _ _ row_line _ _ c.in-Some.row _ inv.0 c.in-Some.ensures.steps inv.1 inv.2 c.in_ok-write_row.ensures

pub returns-in_err-write_row : goal.returns-in_err-write_row
returns-in_err-write_row g c =
    let inv = c.loop-row.invariant in
    rw ((err_from_is_err_and c.from_residual.result c.from_residual.ensures.1).1, ← c.into_iter-row-iterator.ensures.into_iter_gives) (given_failed _ _ _ row_line _ _ c.in-Some.row _ inv.0 c.in-Some.ensures.steps inv.1 inv.2 c.in_err-write_row.ensures)
