-- The sheets of closed days add up to zero.
use Rattle.cns_terms.proofs.Facts.{◌≡◌, ℤ, pos, ◌+ℤ◌, Bool, false, not, cond, ◌==◌, unwrap_or, Option, Some, None, List, [], ◌∷◌, map, filter, flat_map, refl, ◌∙◌, ap, arith, option_map, Account, Cusip, Day, DaySheet, Journal, Row, accounts, at_close, closed_on, closings, date, day, day_sheet, is_idle, is_same_day, issues, journal, open_day, row, rows_of, sheet_rows, total, zero-*ℤ, AddsUpToZero, Positions, ZeroSums}
use Rattle.cns_terms.proofs.Paid.{dividends_zero}
use Rattle.cns_terms.proofs.Magnitudes.{total-append, total-same, total-zero, total-swap}
use Rattle.cns_terms.proofs.Everywhere.{each_found}
use Rattle.cns_terms.proofs.ZeroSums.{cents_zero, each_part, marks_zero, positions_zero}
use Rattle.cns_terms.proofs.Reached.{IsLimited, limited, limited_nil, limited_past, sound_journal}

pub total-flat_map : {X Y : Type 0} (f : Y → ℤ) (g : X → List Y) (xs : List X) → total f (flat_map g xs) ≡ total (λ x. total f (g x)) xs
total-flat_map f g [] = refl
total-flat_map f g (x ∷ xs) = grind (arith, total-append, total-flat_map f g xs)

pub kept_or_not : {X : Type 0} (f : X → ℤ) (b : Bool) (x : X) (xs : List X) → (b ≡ false → f x ≡ pos 0) → total f (cond b (x ∷ xs) xs) ≡ f x +ℤ total f xs
kept_or_not f b x xs h1 = grind arith

-- whether a row says something
abbrev pub says : Row → Bool
says r = not (is_idle r)

-- an idle row has no mark and no dividend
pub idle_parts : (r : Row) → not (is_idle r) ≡ false → (r.opening ≡ pos 0) × (r.closing ≡ pos 0) × (r.money ≡ pos 0) × (r.dividend ≡ pos 0)
idle_parts r h1 = grind arith

-- what is 0 in idle rows, and adds up to zero over all accounts in each issue, does so over a sheet's rows
pub rows_zero : (opening : Day) (K : Journal) (f : Row → ℤ) → ((a : Account) (c : Cusip) → not (is_idle (row opening K a c)) ≡ false → f (row opening K a c) ≡ pos 0)
    → ((c : Cusip) → total (λ a. f (row opening K a c)) (accounts K) ≡ pos 0) → total f (sheet_rows opening K) ≡ pos 0
rows_zero opening K f idle zero =
    total-flat_map f (rows_of opening K) (accounts K)
    ∙ total-same _ _ (accounts K) (λ a. of_rows a (issues K))
    ∙ total-swap (λ a c. f (row opening K a c)) (accounts K) (issues K)
    ∙ total-same _ _ (issues K) zero
    ∙ total-zero (issues K)
  where
    of_rows : (a : Account) (cs : List Cusip) → total f (filter (λ r. not (is_idle r)) (map (row opening K a) cs)) ≡ total (λ c. f (row opening K a c)) cs
    of_rows a [] = refl
    of_rows a (c ∷ cs) = kept_or_not f (not (is_idle (row opening K a c))) (row opening K a c) _ (idle a c) ∙ ap (λ n. f (row opening K a c) +ℤ n) (of_rows a cs)

-- the marks of a sheet's rows, and the dividends
pub sheet_zero : (opening : Day) (K : Journal) → IsLimited opening K → AddsUpToZero (day_sheet opening K)
sheet_zero opening K l = record {
  marks = rows_zero opening K (λ r. r.mark) (λ a c h. grind (arith, idle_parts (row opening K a c) h, zero-*ℤ)) (λ c. marks_zero (accounts K) c K (sound_journal opening K l));
  dividends = rows_zero opening K (λ r. r.dividend) (λ a c h. (idle_parts (row opening K a c) h).3) (λ c. dividends_zero opening K c l.whole.now.accounts_rise);
}

-- the sheet of a day that is looked up
of_found : (opening : Day) (o : Option Journal) (s : DaySheet) → IsLimited opening (unwrap_or o []) → option_map (day_sheet opening) o ≡ Some s → AddsUpToZero s
of_found opening None s l e = cc
of_found opening (Some K) s l e = grind (arith, sheet_zero opening K l)

-- over activities that commands reach, the sheet of each closed day adds up to zero
pub zero_sums : ZeroSums
zero_sums opening L r =
    let J : Journal = journal opening L in
    let past = limited_past opening L r in
    record {
      by_place = λ i. sheet_zero opening (at_close J i) (each_found (IsLimited opening) (λ K. day K == i) [] (closings J) limited_nil past);
      by_date = λ d s. of_found opening (closed_on opening J d) s (each_found (IsLimited opening) (λ K. is_same_day (date opening K) d) [] (closings J) limited_nil past);
    }

-- and the positions of all accounts in each issue do, with the open day's cents
pub positions_balanced : Positions
positions_balanced opening L c r =
    let J : Journal = journal opening L in
    let sound = sound_journal opening J (limited opening L r) in
    record { shares = positions_zero (accounts J) c J sound; cents = cents_zero (accounts J) c (open_day J) (each_part _ J sound).0 }
