-- The text of an amount, by its sign.
use Rattle.cns_units.proofs.Common.{◌≡◌, ℤ, pos, true, false, ◌∷◌, arith, ints, unsigned_abs}
use lib.Signed.{lt_z}
use Rattle.cns_units.specs.Cents.{amount_text, cents_text}

pub cents_text-negative : (z : ℤ) → lt_z z (pos 0) ≡ true → cents_text z ≡ 45 ∷ amount_text (unsigned_abs z)
cents_text-negative z h = grind (arith, ints, h)

pub cents_text-positive : (z : ℤ) → lt_z z (pos 0) ≡ false → cents_text z ≡ amount_text (unsigned_abs z)
cents_text-positive z h = grind (arith, ints, h)
