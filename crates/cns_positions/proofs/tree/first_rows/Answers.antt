use Rattle.cns_positions.proofs.Common.{append-nil, length-append, ◌∷◌, [], arith, None, refl, append_assoc, filter-append, Key, Holding, held_above, is_held}
use Rattle.cns_positions.proofs.Held.{present-push}
use Rattle.cns_positions.proofs.tree.first_rows.Goals as goal

pub loop-row-preserved-then-is_held : goal.loop-row-preserved-then-is_held
loop-row-preserved-then-is_held g c = grind (arith, length-append, append_assoc, present-push, filter-append (λ (r : Key × Holding). is_held r.1) c.loop-row.yielded (c.in-Some.row ∷ []), c.is_held.ensures)

pub returns-then-is_full-clause-first : goal.returns-then-is_full-clause-first
returns-then-is_full-clause-first g c = (held_above c.loop-row.row-iterator None, rw (c.loop-row.invariant.given, ← filter-append (λ (r : Key × Holding). is_held r.1) c.loop-row.yielded c.loop-row.row-iterator, ← c.loop-row.invariant.left, c.into_iter-row-iterator.ensures.into_iter_gives) refl)

pub loop-row-preserved : goal.loop-row-preserved
loop-row-preserved g c = grind (arith, append-nil, append_assoc, filter-append (λ (r : Key × Holding). is_held r.1) c.loop-row.yielded (c.in-Some.row ∷ []), c.if-is_held.ensures)
