-- No CUSIP comes before the lowest.
-- For `new` of columns.rt.
use Rattle.cns_sheets.proofs.Common.{◌≡◌, ◌∙◌, ap, sym, refl, ℕ, Bool, true, false, not, List, [], ◌∷◌, ◌++◌, take, length, length-take, replicate, Option, None, arith, is_some, slice_index, eqb-true, is_lt, nat_cmp, Cusip, drop_all, nat_tests, slice_cmp, drop_more, take-append-drop, IsCusip, last_fault}
use Rattle.cns_sheets.specs.LowestCusip.{IsFromLowest}
use Rattle.cns_units.specs.Cusip.{sum_of}

-- texts that begin alike but for characters above `#` compare by them, or by what follows
body_first : (doubled : Bool) (cs rest low : List ℕ) → is_some (sum_of doubled cs) ≡ true → (cs ≡ replicate (length cs) 35 → is_lt (slice_cmp nat_cmp rest low) ≡ false) → is_lt (slice_cmp nat_cmp (cs ++ rest) (replicate (length cs) 35 ++ low)) ≡ false
unfolding sum_of
body_first doubled [] rest low s h = h refl
body_first doubled (c ∷ cs) rest low s h = grind (arith, nat_tests, body_first (not doubled) cs rest low, h)

-- eight characters that add up, and the fault of a ninth
sums : (o : Option ℕ) (x : ℕ) → last_fault o x ≡ None → is_some o ≡ true
sums o x h = grind arith

-- a text of nine characters without a fault is not below the lowest
from_nine : (c : List ℕ) → length c ≡ 9 → last_fault (sum_of false (take 8 c)) (slice_index c 8) ≡ None → IsFromLowest c
unfolding sum_of
from_nine c n s =
    let eight : length (take 8 c) ≡ 8 = omega (arith, length-take {A = ℕ}) in
    let whole : take 8 c ++ (slice_index c 8 ∷ []) ≡ c = ap (λ xs. take 8 c ++ xs) (sym (rw (drop_all 9 c (omega arith)) at (drop_more c 8 0 (omega arith)))) ∙ take-append-drop 8 c in
    let all = body_first false (take 8 c) (slice_index c 8 ∷ []) (52 ∷ []) (sums (sum_of false (take 8 c)) (slice_index c 8) s)
    (λ same. let at = rw (same, eight) at s in grind (arith, nat_tests)) in
    rw (whole, eight) at all

-- no CUSIP is below the lowest
pub from_lowest : (c : Cusip) → IsCusip c → IsFromLowest c
from_lowest c h = grind (arith, from_nine, eqb-true)
