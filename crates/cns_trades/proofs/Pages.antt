-- Pages of bits.
-- For `with_bit` of references.rt.
use Rattle.cns_trades.proofs.Common.{◌≡◌, ℕ, ◌*◌, ◌^◌, ◌<◌, ◌%◌, eqb, ◌||◌, arith, bit_or, nat_tests, has_bit}
use Rattle.std.proofs.lemmas.Nat.{one_shl}
use Rattle.std.proofs.lemmas.Nat.Bits.{bit_at_or, bit_at-pow_same, bit_at-pow_other}

-- a page with one bit more
pub bit_more : (bits place k : ℕ) → place < 64 → has_bit (bit_or bits (1 * 2 ^ place % 18446744073709551616)) k ≡ (eqb place k || has_bit bits k)
bit_more bits place k h = grind (arith, nat_tests, one_shl place 64 h, bit_at_or, bit_at-pow_same, bit_at-pow_other)
