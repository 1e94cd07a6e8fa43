-- The order of keys.
use Rattle.cns_terms.proofs.Facts.{◌≡◌, ℕ, ◌+◌, ◌*◌, ◌^◌, ◌<◌, ◌&&◌, eqb, List, ap, bytes_eq, nat_cmp, is_eq, arith, IsTotalOrder, Key, key_cmp, ordering_then, slice_cmp, is_eq-slice_cmp, nat_cmp_total, nat_list_cmp_total, on_total, then_total}
use Rattle.std.proofs.lemmas.Map.Lookups.{CmpEqualImpliesEq, exact_pairs, exact_unsigned, exact_bytes}

pub keys_total : IsTotalOrder key_cmp
keys_total = then_total (on_total (λ k. k.account) nat_cmp_total) (on_total (λ k. k.issue) nat_list_cmp_total)

-- keys that compare alike are one
pub exact_keys : CmpEqualImpliesEq key_cmp
exact_keys a b h = ap (λ (p : ℕ × List ℕ). record { account = p.0; issue = p.1 }) (exact_pairs nat_cmp (slice_cmp nat_cmp) exact_unsigned exact_bytes (a.account, a.issue) (b.account, b.issue) h)

-- what tells keys apart, in the words of the definitions
pub same_key : (a b : Key) → is_eq (key_cmp a b) ≡ (eqb a.account b.account && bytes_eq a.issue b.issue)
same_key a b = grind (arith, is_eq-slice_cmp)

-- two pairs of numbers, the second of 64 bits, compare as the numbers that they make
pub pairs_cmp : (a b x y : ℕ) → x < 2 ^ 64 → y < 2 ^ 64 → nat_cmp (a * 2 ^ 64 + x) (b * 2 ^ 64 + y) ≡ ordering_then (nat_cmp a b) (nat_cmp x y)
pairs_cmp a b x y h1 h2 = grind arith
