-- The prices of a sheet.
use Rattle.cns_terms.proofs.Common.{◌≡◌, ◌∙◌, ap, cond, Some, None, unwrap_or, nat_cmp, arith, Cusip, IsSound, Journal, find_with, is_listed, issues, price, slice_cmp, sheet_prices}
use Rattle.std.specs.FinMap.{find}

-- the price that holds, or 0 where the issue is not listed
pub price_or_zero : (J : Journal) (c : Cusip) → IsSound J → unwrap_or (cond (is_listed J c) (Some (price J c)) None) 0 ≡ price J c
price_or_zero J c s = grind arith

-- the price on a sheet
pub sheet_price : (K : Journal) (c : Cusip) → IsSound K → unwrap_or (find (slice_cmp nat_cmp) c (sheet_prices K)) 0 ≡ price K c
sheet_price K c s = ap (λ o. unwrap_or o 0) (find_with (price K) c (issues K)) ∙ price_or_zero K c s
