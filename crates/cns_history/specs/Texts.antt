-- The texts of the lines of a history.
use Rattle.std.specs.Prelude.{ℕ, ℤ, pos, ◌*ℤ◌, List, [], ◌∷◌, ◌++◌}
use Rattle.cns_history.specs.Common.{decimal, day_text, escaped, Row, filled, Booking, Closing, HistoryLine}
use Rattle.cns_tables.specs.Grouped.{amount_text, signed_text}
use Rattle.cns_history.specs.Words.{what_text}
use Rattle.cns_history.specs.declared.booked.TheConstants as booked
use Rattle.cns_history.specs.declared.line.TheConstants.{BEGIN, CLOSE, FIGURES}

-- what a position is worth at the close's price
unfoldable pub worth : Row → ℤ
worth r = r.closing *ℤ pos r.price

-- what a record booked: its number, date, what it was, shares, cents, the position after it and the money since the last close
unfoldable pub booking_text : Booking → List ℕ
booking_text b =
    filled BEGIN.now (decimal b.number ∷ day_text b.date ∷ []) ++ (what_text b.account b.activity
    ++ filled FIGURES.now (signed_text b.shares ∷ amount_text b.cents ∷ signed_text b.position ∷ amount_text b.money ∷ []))

-- a close: its number, date and day, the position, the settling money, price, value, mark, closes short and dividend
unfoldable pub closing_text : Closing → List ℕ
closing_text c =
    let r = c.row in
    filled CLOSE.now (decimal c.number ∷ day_text c.date ∷ decimal c.day ∷ signed_text r.closing ∷ amount_text r.money ∷ amount_text (pos r.price)
    ∷ amount_text (worth r) ∷ amount_text r.mark ∷ decimal c.age ∷ amount_text r.dividend ∷ [])

abbrev pub line_text : HistoryLine → List ℕ
line_text (HistoryLine.Booking b) = booking_text b
line_text (HistoryLine.Closing c) = closing_text c

-- what a record booked for an account: its number, the issue, what it was, shares, cents and the position after it
abbrev pub booked_text : Booking → List ℕ
booked_text b =
    filled booked.BEGIN.now (decimal b.number ∷ escaped b.issue ∷ []) ++ (what_text b.account b.activity
    ++ filled booked.FIGURES.now (signed_text b.shares ∷ amount_text b.cents ∷ signed_text b.position ∷ []))
