use Rattle.cns_book.proofs.Common.{◌≡◌, take, Key, books, entries_by, has_row, holding_at}
use Rattle.cns_book.proofs.buy_in.book_fills.Given as goal

abbrev pub invariant-loop-fill : goal.invariant-loop-fill
invariant-loop-fill g l = record {
  booked : (k : Key) → holding_at (g.P.Positions.rows l.positions) k ≡ books (entries_by l.fn.execution l.fn.given (take l.fill-index l.fills)) k (holding_at (g.P.Positions.rows l.fn.positions) k);
  places : (k : Key) → has_row (g.P.Positions.rows l.positions) k ≡ has_row (g.P.Positions.rows l.fn.positions) k;
}
