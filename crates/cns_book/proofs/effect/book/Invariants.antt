use Rattle.cns_book.proofs.Common.{◌≡◌, take, Key, books, has_row, holding_at}
use Rattle.cns_book.proofs.effect.book.Given as goal

abbrev pub invariant-loop-entry : goal.invariant-loop-entry
invariant-loop-entry g l = record {
  places : (k : Key) → has_row (g.P.Positions.rows l.positions) k ≡ has_row (g.P.Positions.rows l.fn.positions) k;
  booked : (k : Key) → holding_at (g.P.Positions.rows l.positions) k ≡ books (take l.entry-index l.entries) k (holding_at (g.P.Positions.rows l.fn.positions) k);
}
