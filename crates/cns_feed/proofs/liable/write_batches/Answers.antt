use Rattle.cns_feed.proofs.Common.{err_from_is_err_and, parts_failed, parts_more, batch_text}
use Rattle.cns_feed.proofs.liable.write_batches.Goals as goal

pub loop-batch-preserved : goal.loop-batch-preserved
loop-batch-preserved g c =
    let inv = c.loop-batch.invariant in
    parts_more _ _ _ batch_text _ _ c.batch-item.result inv.0 c.loop-batch-test.true inv.1 inv.2 (rw (← c.batch-item.is) c.in_ok-write_batch.ensures)

pub returns-in_err-write_batch : goal.returns-in_err-write_batch
returns-in_err-write_batch g c =
    let p = err_from_is_err_and c.from_residual.result c.from_residual.ensures.1 in
    let inv = c.loop-batch.invariant in
    rw p.1 (parts_failed _ _ (g.W.Write.contents c.write_batch.new.writer) batch_text _ _ c.batch-item.result inv.0 c.loop-batch-test.true inv.1 inv.2 (rw (← c.batch-item.is) c.in_err-write_batch.ensures))
