use Rattle.cns_positions.proofs.Common.{length-append, take, take-append-drop, None, refl, arith, drop, append-nil, filter-append, Key, Holding, held_above, is_held, filter_more}
use Rattle.cns_positions.proofs.Held.{present-push}
use Rattle.cns_positions.proofs.flat.first_rows.Goals as goal

pub loop-row-preserved : goal.loop-row-preserved
loop-row-preserved c = grind (arith, length-append, append-nil, present-push, filter_more (λ (r : Key × Holding). is_held r.1) c.args.rows.now c.loop-row.row-index c.row-item.result c.loop-row-test.true)

pub returns-then-is_full-clause-first : goal.returns-then-is_full-clause-first
returns-then-is_full-clause-first c =
    let rest = drop c.loop-row.row-index c.args.rows.now in
    (held_above rest None, rw (c.loop-row.invariant.given, ← filter-append (λ (r : Key × Holding). is_held r.1) (take c.loop-row.row-index c.args.rows.now) rest, take-append-drop) refl)
