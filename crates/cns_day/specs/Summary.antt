-- The lines of the CNS Accounting Summary and their texts.
use Rattle.std.specs.Prelude.{ℕ, ℤ, pos, ◌+ℤ◌, List, [], ◌∷◌, ◌++◌, Option, None, Some, if◌then◌else◌}
use Rattle.cns_day.specs.Common.{decimal, int_wrap, w128, fold, Account, DaySheet, rows_for, statement, total, Row, row_key, moves_at, causes, moved, no_causes, with_causes, DayMoves, escaped, amount_text, signed_text, filled, cells}
use Rattle.cns_statements.specs.Packs.{is_next}
use Rattle.cns_terms.specs.declared.reply.Stated.{Stated}
use Rattle.cns_day.specs.declared.summary.SheetLine.{SheetLine}
use Rattle.cns_day.specs.declared.summary.Sums.{Sums}
use Rattle.cns_day.specs.declared.summary.TheConstants.{ACCOUNT, ALL, ISSUE}

-- the amounts of a row: money, what its mark comes from, mark and dividend
abbrev pub sums_of : DayMoves → Row → Sums
sums_of ms r = record { money = r.money; moved = moved r; causes = causes r.price (moves_at ms (row_key r)); mark = r.mark; dividend = r.dividend }

-- those of a row more, as much of the sums as fits; those of marks and dividends are given
abbrev pub with_row : Sums → Sums → Sums
with_row s r = record s {
  money = int_wrap w128 (s.money +ℤ r.money);
  moved = int_wrap w128 (s.moved +ℤ r.moved);
  causes = with_causes s.causes r.causes;
}

-- no rows yet, with the sums of their marks and of their dividends
abbrev pub none_of : ℤ → ℤ → Sums
none_of mark dividend = record { money = pos 0; moved = pos 0; causes = no_causes; mark = mark; dividend = dividend }

-- the sums over rows; those of marks and of dividends are given
abbrev pub sums_over : DayMoves → ℤ → ℤ → List Row → Sums
sums_over ms mark dividend rs = fold (λ s r. with_row s (sums_of ms r)) (none_of mark dividend) rs

-- the sums over all rows of a sheet
abbrev pub all_sums : DayMoves → List Row → Sums
all_sums ms rs = sums_over ms (total (λ r. r.mark) rs) (total (λ r. r.dividend) rs) rs

-- the sums over an account's rows, by the first line of its statement
abbrev pub own_sums : DaySheet → DayMoves → Stated → Sums
own_sums s ms st = sums_over ms st.mark st.dividend (rows_for s.rows st.account)

-- a row, after the line of its account where the row before is another one's
abbrev pub grouped : DaySheet → DayMoves → Option Account → Row → List SheetLine
grouped s ms before r =
    (if is_next before r.account then SheetLine.Account r.account (own_sums s ms (statement s r.account)) ∷ [] else [])
    ++ SheetLine.Issue r (sums_of ms r) ∷ []

-- the lines of rows of a sheet, after a row of an account
unfoldable pub lines_after : DaySheet → DayMoves → Option Account → List Row → List SheetLine
lines_after s ms before [] = []
lines_after s ms before (r ∷ rs) = grouped s ms before r ++ lines_after s ms (Some r.account) rs

-- the lines of a sheet, with what moved each position: the sums over all rows, and then the rows, each account's after the sums of
-- its own
abbrev pub sheet_lines : DaySheet → DayMoves → List SheetLine
sheet_lines s ms = SheetLine.All (all_sums ms s.rows) ∷ lines_after s ms None s.rows

-- money, the price change and the causes, the mark that they are, and dividends
abbrev pub sums_text : Sums → List ℕ
sums_text s =
    cells [] [] (amount_text s.money ∷ amount_text s.moved ∷ amount_text s.causes.trades ∷ amount_text s.causes.delivered
    ∷ amount_text s.causes.received ∷ amount_text s.causes.actions ∷ amount_text s.causes.buy_ins ∷ amount_text s.mark ∷ amount_text s.dividend ∷ [])

-- what stands before them: an account, or the issue, opening, closing, price before and price of a row
abbrev pub head_text : SheetLine → List ℕ
head_text (SheetLine.All s) = ALL.now
head_text (SheetLine.Account a s) = filled ACCOUNT.now (decimal a ∷ decimal a ∷ [])
head_text (SheetLine.Issue r s) =
    filled ISSUE.now (escaped r.issue ∷ signed_text r.opening ∷ signed_text r.closing ∷ amount_text (pos r.opening_price) ∷ amount_text (pos r.price) ∷ [])

-- the amounts of a line
abbrev pub sums_in : SheetLine → Sums
sums_in (SheetLine.All s) = s
sums_in (SheetLine.Account a s) = s
sums_in (SheetLine.Issue r s) = s

abbrev pub line_text : SheetLine → List ℕ
line_text l = head_text l ++ sums_text (sums_in l)
