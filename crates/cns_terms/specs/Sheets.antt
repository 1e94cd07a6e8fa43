-- The sheet of a closed day, and the statements cut from it.
use Rattle.std.specs.Prelude.{ℕ, pos, Bool, not, ◌&&◌, ◌==◌, List, [], map, filter, flat_map, length, Option, option_map, unwrap_or}
use Rattle.cns_terms.specs.Types.{int_eq, Account, Cusip, Day, Price, Row}
use Rattle.cns_terms.specs.declared.reply.Stated.{Stated}
use Rattle.cns_terms.specs.Sums.{total}
use Rattle.cns_terms.specs.Postings.{Journal}
use Rattle.cns_terms.specs.Days.{at_close, closed_on, date, last_close}
use Rattle.cns_terms.specs.Positions.{position, money}
use Rattle.cns_terms.specs.Listings.{accounts, issues, price}
use Rattle.cns_terms.specs.Marks.{mark}
use Rattle.cns_terms.specs.Dividends.{dividend}

-- an account's row in an issue, at the close that found the journal so
abbrev pub row : Day → Journal → Account → Cusip → Row
row opening K a c = record {
  account = a;
  issue = c;
  opening = position (last_close K) a c;
  closing = position K a c;
  opening_price = price (last_close K) c;
  price = price K c;
  money = money K a c;
  mark = mark K a c;
  dividend = dividend opening K a c;
}

-- whether a row says nothing
abbrev pub is_idle : Row → Bool
is_idle r = int_eq r.opening (pos 0) && int_eq r.closing (pos 0) && int_eq r.money (pos 0) && int_eq r.dividend (pos 0)

-- the rows of an account, by issue
abbrev pub rows_of : Day → Journal → Account → List Row
rows_of opening K a = filter (λ r. not (is_idle r)) (map (row opening K a) (issues K))

-- the rows of the sheet, by account and then by issue
abbrev pub sheet_rows : Day → Journal → List Row
sheet_rows opening K = flat_map (rows_of opening K) (accounts K)

-- the price of each listed issue at a close, by the issue's bytes
abbrev pub sheet_prices : Journal → List (Cusip × Price)
sheet_prices K = map (λ c. (c, price K c)) (issues K)

-- a closed day: its date, the price of each listed issue, and its rows
pub record DaySheet : Type 0 where
  pub date : Day
  pub prices : List (Cusip × Price)
  pub rows : List Row

-- the sheet that a close cuts from the journal as it finds it
abbrev pub day_sheet : Day → Journal → DaySheet
day_sheet opening K = record { date = date opening K; prices = sheet_prices K; rows = sheet_rows opening K }

-- the sheet of a closed day, by its place among the closed days from 1
abbrev pub sheet_at : Day → Journal → ℕ → DaySheet
sheet_at opening J i = day_sheet opening (at_close J i)

-- the sheet of the closed day with the date, if such a day is closed
abbrev pub sheet_on : Day → Journal → Day → Option DaySheet
sheet_on opening J d = option_map (day_sheet opening) (closed_on opening J d)

-- the same where such a day is known to be closed
abbrev pub sheet_named : Day → Journal → Day → DaySheet
sheet_named opening J d = unwrap_or (sheet_on opening J d) (day_sheet opening [])

-- the rows that are an account's
abbrev pub rows_for : List Row → Account → List Row
rows_for rows a = filter (λ r. r.account == a) rows

-- the statement of an account on a sheet: the count of its rows, and the sums of their marks and dividends
abbrev pub statement : DaySheet → Account → Stated
statement s a =
    let rs = rows_for s.rows a in
    record {
      account = a;
      date = s.date;
      rows = length rs;
      mark = total (λ r. r.mark) rs;
      dividend = total (λ r. r.dividend) rs;
    }
