-- The text of a statement.
use Rattle.std.specs.Prelude.{ℕ, ℤ, pos, ◌∷◌, ◌++◌, [], List, codes, length, decimal, flat_map}
use Rattle.cns_terms.specs.Common.{Account, Day, cents_text, text_line}
use Rattle.std.specs.Fmt.{signed_decimal}
use Rattle.cns_units.specs.Day.{day_text}
use Rattle.cns_terms.specs.declared.reply.Stated.{Stated}
use Rattle.cns_terms.specs.declared.sheet.Row.{Row}

-- `statement ACCOUNT DATE ROWS MARK DIVIDEND`
abbrev pub stated_line : Stated → List ℕ
stated_line s = text_line (codes "statement") (decimal s.account ∷ day_text s.date ∷ decimal s.rows ∷ cents_text s.mark ∷ cents_text s.dividend ∷ [])

-- `row CUSIP OPENING CLOSING OPENINGPRICE PRICE MONEY MARK DIVIDEND`
abbrev pub row_line : Row → List ℕ
row_line r =
    text_line (codes "row")
    (r.issue ∷ signed_decimal r.opening ∷ signed_decimal r.closing ∷ cents_text (pos r.opening_price) ∷ cents_text (pos r.price) ∷ cents_text r.money ∷ cents_text r.mark ∷ cents_text r.dividend ∷ [])

-- the line of each row
abbrev pub rows_text : List Row → List ℕ
rows_text rows = flat_map row_line rows

-- what the first line says of some rows and two sums
abbrev pub stated_of : Account → Day → List Row → ℤ → ℤ → Stated
stated_of account date rows mark dividend = record { account = account; date = date; rows = length rows; mark = mark; dividend = dividend }

-- the first line, and those of the rows
abbrev pub statement_text : Account → Day → List Row → ℤ → ℤ → List ℕ
statement_text account date rows mark dividend = stated_line (stated_of account date rows mark dividend) ++ rows_text rows
