-- What a division that is cut towards zero leaves.
use Rattle.cns_terms.proofs.Facts.{◌≡◌, ℕ, ◌≤◌, ℤ, pos, int_div, arith, unsigned_abs, Ratio, fraction, ints}

-- a quotient is no further from zero than what is divided
pub quotient_few : (z : ℤ) (n : ℕ) → unsigned_abs (int_div z (pos n)) ≤ unsigned_abs z
quotient_few z n = grind arith

-- the cut leaves less than a new share
pub fraction_few : (q : ℤ) (r : Ratio) → 1 ≤ r.old → unsigned_abs (fraction r q) ≤ r.old
fraction_few q r h1 = grind (arith, ints)
