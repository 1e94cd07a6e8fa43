use Rattle.cns_day.proofs.Common.{◌≡◌, ◌++◌, take, owing_among}
use Rattle.cns_day.proofs.liable.gather.Given as goal

abbrev pub invariant-loop-batch : goal.invariant-loop-batch
invariant-loop-batch l = l.owing.items ≡ l.initial.owing.items ++ owing_among l.fn.day (take l.batch-index l.batches)
