use Rattle.cns_book.proofs.Common.{◌≡◌, ◌++◌, map, payments_by}
use Rattle.cns_book.proofs.closed_days.ClosedDays.payments.Given as goal

abbrev pub invariant-loop-declared : goal.invariant-loop-declared
invariant-loop-declared g l = record {
  paid : map (λ p. (p.declared, p.sheet.now.rows)) l.payments.items ++ payments_by l.self l.declared-iterator ≡ payments_by l.self l.fn.due;
}
