-- The checks of trades.
-- For `is_in_time` and `check_trade` of trades.rt.
use Rattle.cns_trades.proofs.Common.{◌≡◌, ◌≤◌, ◌^◌, ◌<◌, FitsSigned, of_z, to_z, ℤ, Bool, true, false, not, ◌||◌, ◌==◌, List, Some, arith, w64, unsigned_abs, fits_signed_from_abs, is_not_after, is_past, is_too_far, pend_of, position_limit, Pend, book_answer, party, trade_answer}
use Rattle.std.proofs.lemmas.Int.{to_z-of_z}
use mir.Val.{hbits}
use lib.Signed.{mag}
use Rattle.cns_terms.specs.declared.command.Trade.{Trade}
use Rattle.cns_trades.specs.declared.facts.TradeFacts.{TradeFacts}

-- a number within 64 bits
pub wide_fits : (z : ℤ) → mag z < 2 ^ hbits w64 → FitsSigned w64 z
wide_fits z h = record { sfits = h }

-- a position is passed on as it is
pub passed : (z : ℤ) → unsigned_abs z ≤ position_limit → to_z w64 (of_z w64 z) ≡ z
passed z h = to_z-of_z w64 z (fits_signed_from_abs w64 z (omega (arith, h)))

-- a trade that nothing else refuses and whose date has come
pub books_now : (f : TradeFacts) (ps : List Pend) (seen : Bool) (t : Trade) (p q : ℤ) → f.buyer ≡ Some p → f.seller ≡ Some q → f.listed ≡ true → f.retired ≡ false → (t.buyer == t.seller) ≡ false → not (is_past t.date f.today || is_too_far t.date f.today) ≡ true → seen ≡ false → is_not_after t.date f.today ≡ true
    → book_answer (party ps p t.buyer t.issue) (party ps q t.seller t.issue) (pend_of t) ≡ trade_answer f ps seen t
books_now f ps seen t p q buyer seller listed retired apart day fresh now = grind arith
