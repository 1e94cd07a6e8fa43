use Rattle.cns_book.proofs.Common.{◌≡◌, ◌≤◌, unsigned_abs, AllByRecursion, Cusip, called_in, corporation_limit, oldest_at}
use Rattle.cns_book.proofs.RetransmittalShorts.{with_rows}
use Rattle.cns_book.proofs.parts.Parts.add_shorts.Given as goal

abbrev pub invariant-loop-row : goal.invariant-loop-row
invariant-loop-row g l = record {
  few : AllByRecursion (λ r. unsigned_abs r.closing ≤ corporation_limit) l.row-iterator;
  left : (c : Cusip) → with_rows (oldest_at l.self.rows) c l.row-iterator (called_in l.calls c) ≡ with_rows (oldest_at l.self.rows) c l.initial.row-iterator (called_in l.initial.calls c);
}
