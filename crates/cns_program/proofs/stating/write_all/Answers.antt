use Rattle.cns_program.proofs.Common.{err_from_is_err_and, parts_failed, parts_more, text_of_one}
use Rattle.cns_program.proofs.stating.write_all.Goals as goal

pub loop-statement-preserved : goal.loop-statement-preserved
loop-statement-preserved g c =
    let inv = c.loop-statement.invariant in parts_more _ _ _ text_of_one _ _ c.statement-item.result inv.0 c.loop-statement-test.true inv.1 inv.2 (rw (← c.statement-item.is) c.in_ok-write_statement.ensures)

pub returns-in_err-write_statement : goal.returns-in_err-write_statement
returns-in_err-write_statement g c =
    let p = err_from_is_err_and c.from_residual.result c.from_residual.ensures.1 in
    let inv = c.loop-statement.invariant in
    rw p.1 (parts_failed _ _ (g.O.Write.contents c.write_statement.new.writer) text_of_one _ _ c.statement-item.result inv.0 c.loop-statement-test.true inv.1 inv.2 (rw (← c.statement-item.is) c.in_err-write_statement.ensures))
