use Rattle.cns_sheets.proofs.Common.{refl}
use Rattle.cns_sheets.proofs.Alike.{other_row}
use Rattle.cns_sheets.proofs.same.same_rows.Goals as goal

pub returns-then-not-is_same : goal.returns-then-not-is_same
returns-then-not-is_same g c = other_row c.args.one c.args.other c.loop-row.yielded c.next.new.self c.next-in-loop-row.new.self c.in-Some.row c.in-Some-next.next (rw (← c.in-Some.ensures.steps, ← c.loop-row.invariant.left, c.into_iter-row-iterator.ensures.into_iter_gives) refl) (rw (← c.in-Some-next.ensures.steps, ← c.loop-row.invariant.other) refl) c.if-not-is_same.ensures.1
