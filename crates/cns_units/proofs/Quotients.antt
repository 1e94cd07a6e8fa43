-- What a division that is cut towards zero leaves, for `Ratio::rest` of `ratio.rt`.
use Rattle.cns_units.proofs.Common.{◌≡◌, ℤ, arith, ints}
use Rattle.std.specs.Prelude.{◌-ℤ◌, ◌*ℤ◌, int_div, int_rem}

-- the rest is what the quotient times the divisor lacks
pub rest_of : (a d : ℤ) → int_rem a d ≡ a -ℤ (int_div a d *ℤ d)
rest_of a d = grind (arith, ints)
