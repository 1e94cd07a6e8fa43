use Rattle.cns_positions.proofs.Common.{get_or, arith, Holding, Key, rolled}
use Rattle.std.proofs.lemmas.List.Edits.{map_over_more}
use Rattle.cns_positions.proofs.flat.close_all.Goals as goal

pub loop-row-preserved : goal.loop-row-preserved
loop-row-preserved c = grind (arith, map_over_more (λ (r : Key × Holding). (r.0, rolled r.1)) c.args.rows.now c.loop-row.rows c.loop-row.row-index (get_or c.loop-row.rows c.loop-row.row-index c.row-item.result))
