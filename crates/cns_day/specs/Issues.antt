-- The sums by issue over all accounts.
use Rattle.std.specs.Prelude.{◌≡◌, ℕ, pos, ◌+ℤ◌, if◌then◌else◌, List, [], ◌∷◌, Option, Some, None, unwrap_or}
use Rattle.std.specs.BTreeMap.{values}
use Rattle.std.specs.Int.{int_max, int_min}
use Rattle.cns_day.specs.Common.{IsOrdered, get, int_wrap, w128, w64, fold, is_eq, nat_cmp, Cusip, Row, row_of, ROW, Piece}
use Rattle.std.specs.Cmp.Lexicographic.{slice_cmp}
use Rattle.cns_day.specs.declared.issues.IssueSums.{IssueSums}
use Rattle.cns_day.specs.declared.issues.SumsByIssue.{SumsByIssue}

-- no rows
abbrev pub nothing : Cusip → IssueSums
nothing c = record { issue = c; long = pos 0; short = pos 0; closing = pos 0; money = pos 0; mark = pos 0; dividend = pos 0 }

-- with a row more, as much of the sums as fits
abbrev pub with_row : IssueSums → Row → IssueSums
with_row s r = record s {
  long = int_wrap w64 (s.long +ℤ int_max r.closing (pos 0));
  short = int_wrap w64 (s.short +ℤ int_min r.closing (pos 0));
  closing = int_wrap w64 (s.closing +ℤ r.closing);
  money = int_wrap w128 (s.money +ℤ r.money);
  mark = int_wrap w128 (s.mark +ℤ r.mark);
  dividend = int_wrap w128 (s.dividend +ℤ r.dividend);
}

-- the same where the row is in the issue
abbrev pub with_row_in : Cusip → Option IssueSums → Row → Option IssueSums
with_row_in c o r = if is_eq (slice_cmp nat_cmp r.issue c) then Some (with_row (unwrap_or o (nothing r.issue)) r) else o

-- what the rows in each issue add up to, where there are any
abbrev pub AreSums : List Row → SumsByIssue → Type 0
AreSums rs s = (c : Cusip) → get (slice_cmp nat_cmp) s.sums c ≡ fold (with_row_in c) None rs

-- the sums of each issue that has a row, in the order of the issues
pub record AreIssues (rs : List Row) (ls : List IssueSums) : Type 0 where
  pub sums : SumsByIssue
  pub are : AreSums rs sums
  pub rising : IsOrdered (slice_cmp nat_cmp) sums.sums
  pub lines : ls ≡ values sums.sums

-- the issue, the sums of the positions above 0, of those below 0 and of all, of the money, of the marks and of the dividends
abbrev pub sums_text : IssueSums → List ℕ
sums_text s =
    row_of ROW.now (Piece.Issue s.issue)
    (Piece.Signed s.long ∷ Piece.Signed s.short ∷ Piece.Signed s.closing ∷ Piece.Amount s.money ∷ Piece.Amount s.mark
    ∷ Piece.Amount s.dividend ∷ [])
