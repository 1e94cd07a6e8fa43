-- Rows that are added up one after another, in sums that wrap.
-- For `account_sums` and `sheet_sums` of sums.rt, `stated` of sheet.rt.
use Rattle.cns_sheets.proofs.Common.{◌≡◌, refl, ℕ, ◌≤◌, ℤ, ◌+ℤ◌, FitsSigned, List, [], ◌∷◌, ◌++◌, length, take, arith, unsigned_abs, take_all, Row, int_wrap-add_left, ints, sum_limit, total, w128}
use Rattle.std.specs.Int.{int_wrap}
use Rattle.cns_sheets.specs.declared.sums.Totals.{Totals}
use Rattle.cns_sheets.proofs.RowSums.{total_push}

-- how far a loop over rows has come: the rows that it was given, and what they add up to, as much of it as fits
pub record Adding (all given left : List Row) (totals : Totals) : Type 0 where
  pub parts : all ≡ given ++ left
  pub rows : totals.rows ≡ length given
  pub mark : totals.mark ≡ int_wrap w128 (total (λ r. r.mark) given)
  pub dividend : totals.dividend ≡ int_wrap w128 (total (λ r. r.dividend) given)

-- one term more
pub more : (f : Row → ℤ) (given : List Row) (row : Row) → int_wrap w128 (total f (given ++ row ∷ [])) ≡ int_wrap w128 (int_wrap w128 (total f given) +ℤ f row)
more f given row = rw (total_push f given row, int_wrap-add_left) refl

-- a sum that is small on the way is small in the end, and fits
pub small_fits : (f : Row → ℤ) (rows : List Row) → ((n : ℕ) → unsigned_abs (total f (take n rows)) ≤ sum_limit) → FitsSigned w128 (total f rows)
small_fits f rows small = let few = rw (take_all (length rows) rows (omega arith)) at (small (length rows)) in omega (arith, ints, few)
