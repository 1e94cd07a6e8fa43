-- Since when an account's shorts are short, and what the price did to them.
use Rattle.std.specs.Prelude.{ℕ, ℤ, pos, ◌-◌, ◌+ℤ◌, int_lt, Bool, false, ◌||◌, List, [], ◌∷◌, ◌++◌, drop, length, reverse, slice_get, unwrap_or, if◌then◌else◌}
use Rattle.cns_account.specs.Common.{int_wrap, w128, fold, option_map_or, Account, Cusip, Day, DaySheet, State, journal_of, same_issue, sheet_on, Exchange, Row, row_of, ROW, worth, Past, Piece}
use Rattle.cns_sheets.specs.Search.{row_at}
use Rattle.cns_account.specs.Rows.{moved}
use Rattle.cns_account.specs.declared.fails.Fail.{Fail}

-- ---- since when

-- the last days, so many
abbrev pub last_days : ℕ → List Day → List Day
last_days n ds = drop (length ds - n) ds

-- ---- what was exchanged for an issue

-- whether an issue is among others
abbrev pub is_among : Cusip → List Cusip → Bool
is_among c cs = fold (λ b d. b || same_issue d c) false cs

-- with the old issue of an exchange, where its successor is among the issues
abbrev pub with_exchange : List Cusip → Exchange → List Cusip
with_exchange cs x = if is_among x.successor cs then cs ++ x.old ∷ [] else cs

-- an issue, with those that were exchanged for it, directly or by further exchanges: back from the newest exchange, since none is of
-- an issue that was retired before
abbrev pub issues_behind : List Exchange → Cusip → List Cusip
issues_behind xs c = fold with_exchange (c ∷ []) (reverse xs)

-- ---- what the price did

-- what a day's price did to an account's position in an issue, where it was short when the day began
abbrev pub short_move : Account → DaySheet → Cusip → ℤ
short_move a s c =
    option_map_or (λ r. if int_lt r.opening (pos 0) then moved r else pos 0) (row_at s.rows (record { account = a; issue = c })) (pos 0)

-- in issues, on one closed day more, as much of the sum as fits
abbrev pub with_day : State → Account → List Cusip → ℤ → Day → ℤ
with_day S a cs z d = option_map_or (λ s. fold (λ z c. int_wrap w128 (z +ℤ short_move a s c)) z cs) (sheet_on S.opening (journal_of S) d) z

-- ---- the rows

-- a short at the last close, on the date, by its row and its age: the first of as many closes as it is old, and what the price did to
-- it after that close, in the issue and in those that were exchanged for it, on one day after another
abbrev pub fail : State → Past → Day → Row → ℕ → Fail
fail S p d r n = record {
  row = r;
  age = n;
  since = unwrap_or (slice_get (last_days n p.days.items) 0) d;
  change = fold (with_day S r.account (issues_behind p.exchanges.items r.issue)) (pos 0) (last_days (n - 1) p.days.items);
}

-- of a fail: closes short, the date of the first of them, opening, closing, price, value, and what the price did
abbrev pub fail_cells : Fail → List Piece
fail_cells f =
    Piece.Number f.age ∷ Piece.Date f.since ∷ Piece.Signed f.row.opening ∷ Piece.Signed f.row.closing ∷ Piece.Amount (pos f.row.price)
    ∷ Piece.Amount (worth f.row) ∷ Piece.Amount f.change ∷ []

-- the same after the issue
abbrev pub fail_text : Fail → List ℕ
fail_text f = row_of ROW.now (Piece.Issue f.row.issue) (fail_cells f)
