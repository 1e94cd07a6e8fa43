use Rattle.cns_feed.proofs.Common.{◌≡◌, ℕ, List, ◌++◌, drop, flat_map, Appends, liable_line}
use Rattle.cns_feed.proofs.liable.write_batch.Given as goal

abbrev pub invariant-loop-liable : goal.invariant-loop-liable
invariant-loop-liable g l = let text = flat_map (liable_line l.issue) in (done : List ℕ)
    × (text l.liable-items ≡ done ++ text (drop l.liable-index l.liable-items))
    × Appends (g.W.Write.contents l.fn.writer) (g.W.Write.contents l.writer) done
