use Rattle.cns_statements.proofs.Common.{err_from_is_err_and, front_longer, rows_text, stated_line, stated_of}
use Rattle.cns_statements.proofs.text.write_statement.Goals as goal

pub returns-in_err-write_stated : goal.returns-in_err-write_stated
returns-in_err-write_stated g c =
    let s = c.args.statement.now in
    rw (err_from_is_err_and c.from_residual.result c.from_residual.ensures.1).1 (front_longer _ _ (stated_line (stated_of s.account s.date s.rows s.mark s.dividend)) (rows_text s.rows) (rw c.len.ensures at c.in_err-write_stated.ensures))
