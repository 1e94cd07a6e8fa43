use Rattle.cns_feed.proofs.Common.{◌≡◌, ℕ, List, ◌++◌, drop, Appends, batches_text}
use Rattle.cns_feed.proofs.liable.write_batches.Given as goal

abbrev pub invariant-loop-batch : goal.invariant-loop-batch
invariant-loop-batch g l = (done : List ℕ) × (batches_text l.batches ≡ done ++ batches_text (drop l.batch-index l.batches))
    × Appends (g.W.Write.contents l.fn.writer) (g.W.Write.contents l.writer) done
