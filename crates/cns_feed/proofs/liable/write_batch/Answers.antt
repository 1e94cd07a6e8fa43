use Rattle.cns_feed.proofs.Common.{err_from_is_err_and, parts_failed, parts_more, liable_line}
use Rattle.cns_feed.proofs.liable.write_batch.Goals as goal

pub loop-liable-preserved : goal.loop-liable-preserved
loop-liable-preserved g c =
    let inv = c.loop-liable.invariant in
    parts_more _ _ _ (liable_line c.cusip-issue.result) _ _ c.liable-item.result inv.0 c.loop-liable-test.true inv.1 inv.2 (rw (← c.liable-item.is) c.in_ok-write_liable.ensures)

pub returns-in_err-write_liable : goal.returns-in_err-write_liable
returns-in_err-write_liable g c =
    let p = err_from_is_err_and c.from_residual.result c.from_residual.ensures.1 in
    let inv = c.loop-liable.invariant in
    rw (p.1, ← c.cusip-issue.ensures, ← c.members-liable-items.ensures)
    (parts_failed _ _ (g.W.Write.contents c.write_liable.new.writer) (liable_line c.cusip-issue.result) _ _ c.liable-item.result inv.0 c.loop-liable-test.true inv.1 inv.2 (rw (← c.liable-item.is) c.in_err-write_liable.ensures))
