-- What a row gains beside the cents booked.
-- For `new` of columns.rt.
use Rattle.cns_sheets.proofs.Common.{◌*◌, ◌^◌, ◌≤◌, ℤ, pos, ◌-ℤ◌, unsigned_abs, arith, Price, ints, marked, unsigned_abs-mul}

-- what is gained is small enough to be added up
pub gained : (opening closing : ℤ) (opening_price price : Price) (money : ℤ) → unsigned_abs opening ≤ 2 ^ 63 → unsigned_abs closing ≤ 2 ^ 63 → opening_price ≤ 10 ^ 9 → price ≤ 10 ^ 9
    → unsigned_abs (marked opening closing opening_price price money -ℤ money) ≤ 2 ^ 64 * 10 ^ 9
gained opening closing opening_price price money a b p q = grind (arith, ints, unsigned_abs-mul opening (pos opening_price), unsigned_abs-mul closing (pos price))
