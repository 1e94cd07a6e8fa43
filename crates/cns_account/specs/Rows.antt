-- The rows of an account's day, and their texts.
use Rattle.std.specs.Prelude.{ℕ, ℤ, pos, ◌+ℤ◌, ◌-ℤ◌, ◌*ℤ◌, int_lt, List, [], ◌∷◌, if◌then◌else◌}
use Rattle.cns_account.specs.Common.{int_wrap, row_key, w128, fold, Price, State, Row, standing, worth, row_of, ROW, DayMoves, Moved, Moves, Piece}
use Rattle.cns_account.specs.Moves.{moves_at}
use Rattle.cns_account.specs.declared.mark.MarkRow.{MarkRow}
use Rattle.cns_account.specs.declared.mark.Causes.{Causes}
use Rattle.cns_account.specs.declared.row.AccountRow.{AccountRow}
use Rattle.cns_account.specs.declared.row.Totals.{Totals}

-- ---- the rows

-- a row of the sheet, with what moved it on the day, and the age that the book shows
abbrev pub account_row : State → DayMoves → Row → AccountRow
account_row S ms r = record { row = r; moves = moves_at ms (row_key r); age = (standing S (row_key r)).run }

-- the same for the table of marks
abbrev pub mark_row : AccountRow → MarkRow
mark_row r = record { line = r }

-- ---- amounts

-- what the change of price since the close before is worth on the opening position
unfoldable pub moved : Row → ℤ
moved r = r.opening *ℤ (pos r.price -ℤ pos r.opening_price)

-- what a movement brings to the mark: its shares at the price, and its cents, as much as fits 128 bits
unfoldable pub valued : Price → Moved → ℤ
valued p m = int_wrap w128 (m.shares *ℤ pos p +ℤ m.cents)

-- what a day's movements bring to a mark, by cause
abbrev pub causes : Price → Moves → Causes
causes p m = record {
  trades = valued p m.trades;
  delivered = valued p m.delivered;
  received = valued p m.received;
  actions = valued p m.actions;
  buy_ins = valued p m.buy_ins;
}

-- nothing
abbrev pub no_causes : Causes
no_causes = record { trades = pos 0; delivered = pos 0; received = pos 0; actions = pos 0; buy_ins = pos 0 }

-- what two bring, as much of the sums as fits
abbrev pub with_causes : Causes → Causes → Causes
with_causes a b = record {
  trades = int_wrap w128 (a.trades +ℤ b.trades);
  delivered = int_wrap w128 (a.delivered +ℤ b.delivered);
  received = int_wrap w128 (a.received +ℤ b.received);
  actions = int_wrap w128 (a.actions +ℤ b.actions);
  buy_ins = int_wrap w128 (a.buy_ins +ℤ b.buy_ins);
}

-- ---- what the positions are worth

-- a row more, as much of the sums as fits
abbrev pub with_row : Totals → AccountRow → Totals
with_row t r =
    let net = int_wrap w128 (t.net +ℤ worth r.row) in
    if int_lt r.row.closing (pos 0) then record t { short = int_wrap w128 (t.short +ℤ worth r.row); net = net }
    else record t { long = int_wrap w128 (t.long +ℤ worth r.row); net = net }

-- all rows, one after another
abbrev pub totals_of : List AccountRow → Totals
totals_of rs = fold with_row (record { long = pos 0; short = pos 0; net = pos 0 }) rs

-- ---- texts

-- a position: opening, the five movements, closing, closes short, price, value, mark and dividend
abbrev pub position_text : AccountRow → List ℕ
position_text r =
    row_of ROW.now (Piece.Issue r.row.issue)
    (Piece.Signed r.row.opening ∷ Piece.Signed r.moves.trades.shares ∷ Piece.Signed r.moves.delivered.shares
    ∷ Piece.Signed r.moves.received.shares ∷ Piece.Signed r.moves.actions.shares ∷ Piece.Signed r.moves.buy_ins.shares
    ∷ Piece.Signed r.row.closing ∷ Piece.Number r.age ∷ Piece.Amount (pos r.row.price) ∷ Piece.Amount (worth r.row)
    ∷ Piece.Amount r.row.mark ∷ Piece.Amount r.row.dividend ∷ [])

-- a mark: the two prices, the price change, what each movement brings, the mark, and the settling money
abbrev pub mark_text : MarkRow → List ℕ
mark_text m =
    let r = m.line.row in
    let c = causes r.price m.line.moves in
    row_of ROW.now (Piece.Issue r.issue)
    (Piece.Amount (pos r.opening_price) ∷ Piece.Amount (pos r.price) ∷ Piece.Amount (moved r)
    ∷ Piece.Amount c.trades ∷ Piece.Amount c.delivered ∷ Piece.Amount c.received ∷ Piece.Amount c.actions ∷ Piece.Amount c.buy_ins
    ∷ Piece.Amount r.mark ∷ Piece.Amount r.money ∷ [])
