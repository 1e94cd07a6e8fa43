-- The positions of which a sheet can be cut.
use Rattle.std.specs.Prelude.{◌≡◌, ◌^◌, ◌≤◌, ℤ, pos, true, List, [], length, Option, Some, None, if◌then◌else◌}
use Rattle.cns_sheets.specs.Common.{AllByRecursion, Cusip, DaySheet, is_sorted, key_cmp, same_issue, total, Holding, Key, Row, Rows, holding_at, Listed}
use Rattle.cns_sheets.specs.Build.{AreFew, HasSmallCents, HaveSmallAmounts, prices_of}
use Rattle.cns_sheets.specs.Payments.{IsCut, IsPayable, Paying, closing_at}

-- a number of a holding, if it is in the issue
abbrev pub held_in : (Holding → ℤ) → Cusip → Key × Holding → ℤ
held_in f c e = if same_issue e.0.issue c then f e.1 else pos 0

-- the rows of the sheet before, none where there is none
abbrev pub rows_before : Option DaySheet → List Row
rows_before None = []
rows_before (Some s) = s.rows

-- in each issue positions and booked cents add up to zero, each opening is the closing before, and amounts and counts are
-- small enough to be added up
pub record CanBeCut (before : Option DaySheet) (prices : Listed) (rows : Rows) (ps : List Paying) : Type 0 where
  pub shares : (c : Cusip) → total (held_in (λ h. h.now) c) rows ≡ pos 0
  pub cents : (c : Cusip) → total (held_in (λ h. h.contract) c) rows ≡ pos 0
  pub openings : (k : Key) → (holding_at rows k).opening ≡ closing_at (rows_before before) k
  pub small : AllByRecursion HasSmallCents rows
  pub few : (cut : List Row) → IsCut (prices_of before) prices rows ps cut → AreFew cut
  pub amounts : (cut : List Row) → IsCut (prices_of before) prices rows ps cut → HaveSmallAmounts cut

-- dividends that can be paid: each small enough to be added up, and not too many
pub record CanBePaid (ps : List Paying) : Type 0 where
  pub payable : AllByRecursion IsPayable ps
  pub few : length ps ≤ 2 ^ 32

-- rows that are in the order of their keys, as positions hand them out, can be cut
abbrev pub IsReady : Option DaySheet → Listed → Rows → List Paying → Type 0
IsReady before prices rows ps = is_sorted key_cmp rows ≡ true → CanBeCut before prices rows ps
