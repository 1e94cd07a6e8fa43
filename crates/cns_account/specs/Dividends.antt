-- What the dividends that a close pays bring an account.
use Rattle.std.specs.Prelude.{ℕ, ℤ, pos, ◌-◌, ◌-ℤ◌, Bool, not, ◌==◌, ◌||◌, List, [], ◌∷◌, filter, filter_map, length, slice_get, take, Option, Some, None, if◌then◌else◌}
use Rattle.cns_account.specs.Common.{int_wrap, w128, flat_map, fold, option_map_or, int_eq, Account, Cusip, Day, DaySheet, State, cash, corporation, is_not_after, journal_of, same_issue, sheet_on, is_due, Declared, Row, row_of, ROW, Past, Piece}
use Rattle.cns_sheets.specs.Payments.{closing_at, member_cash}
use Rattle.cns_account.specs.declared.dividends.PaidDividend.{PaidDividend}

-- ---- which

-- the last but one of days
abbrev pub close_before : List Day → Option Day
close_before ds = let before = take (length ds - 1) ds in slice_get before (length before - 1)

-- the dividends that the last close, on the date, pays, in the order in which they were declared
abbrev pub due_on : Past → Day → List Declared
due_on p d = filter (is_due (close_before p.days.items) d) p.dividends.items

-- ---- on which position

-- the last of days that is not after a date
abbrev pub last_by : Day → List Day → Option Day
last_by d ds = fold (λ last x. if is_not_after x d then Some x else last) None ds

-- the sheet of a closed day, where one is given
abbrev pub sheet_if_any : State → Option Day → Option DaySheet
sheet_if_any S (Some d) = sheet_on S.opening (journal_of S) d
sheet_if_any S None = None

-- ---- what is paid

-- less the cash on a row, as much of the sum as fits
abbrev pub less_cash : Declared → ℤ → Row → ℤ
less_cash d z r = int_wrap w128 (z -ℤ member_cash d r)

-- what a dividend pays an account, by the sheet as of its record date: a member the cash on its position there, the corporation the
-- opposite of what it pays all members
abbrev pub paid_on : Account → DaySheet → Declared → PaidDividend
paid_on a s d =
    let position = closing_at s.rows (record { account = a; issue = d.issue }) in
    record {
      declared = d;
      position = position;
      cents = if a == corporation then fold (less_cash d) (pos 0) s.rows else cash position d.rate;
    }

-- the same by the sheet of the last close on or before the record date
abbrev pub paid_of : State → List Day → Account → Declared → PaidDividend
paid_of S ds a d =
    option_map_or (λ s. paid_on a s d) (sheet_if_any S (last_by d.recorded ds)) (record { declared = d; position = pos 0; cents = pos 0 })

-- whether it is shown: of the corporation each dividend, and of a member those on a position
abbrev pub tells : Account → PaidDividend → Bool
tells a p = a == corporation || not (int_eq p.position (pos 0))

-- what a dividend pays an account, where it is one in the issue and is shown
abbrev pub paid_in : State → List Day → Account → Cusip → Declared → Option PaidDividend
paid_in S ds a c d =
    let p = paid_of S ds a d in
    if same_issue d.issue c then (if tells a p then Some p else None) else None

-- what the dividends that the last close paid brought an account, by the close's sheet: issue by issue, and in each in the order in
-- which they were declared
abbrev pub dividends_paid : State → Past → Account → DaySheet → List PaidDividend
dividends_paid S p a s = flat_map (λ e. filter_map (paid_in S p.days.items a e.0) (due_on p s.date)) s.prices

-- a dividend: the issue, the record date, the payable date, the rate, the position, and what was paid
abbrev pub dividend_text : PaidDividend → List ℕ
dividend_text p =
    row_of ROW.now (Piece.Issue p.declared.issue)
    (Piece.Date p.declared.recorded ∷ Piece.Date p.declared.payable ∷ Piece.Rate p.declared.rate ∷ Piece.Signed p.position
    ∷ Piece.Amount p.cents ∷ [])
