-- Places of members in issues, and the numbers at them.
-- For `put` and `of_issue` of latest.rt.
use Rattle.cns_notices.proofs.Common.{◌≡◌, ap, refl, ◌<◌, false, [], ◌∷◌, filter, arith, is_gt, nat_cmp, Less, Cusip, Included, IsTotalOrder, Numbers, Place, exact_bytes, is_eq-slice_cmp, nat_cmp_total, nat_list_cmp_total, nat_tests, ordering_then, range_contains, same_issue, slice_cmp, tied_itself, All-head, All-tail, HaveSmallMembers, in_issue, place_cmp}
use Rattle.std.specs.Map.{keys_of}
use Rattle.std.proofs.lemmas.Cmp.{then_total, on_total}
use Rattle.std.proofs.lemmas.Map.Lookups.{CmpEqualImpliesEq, exact_pairs, exact_unsigned}

-- the order of places is total, and tells them apart
pub places_total : IsTotalOrder place_cmp
places_total = then_total (on_total (λ (p : Place). p.0) nat_list_cmp_total) (on_total (λ (p : Place). p.1) nat_cmp_total)

pub exact_places : CmpEqualImpliesEq place_cmp
exact_places = exact_pairs (slice_cmp nat_cmp) nat_cmp exact_bytes exact_unsigned

-- a place is not before itself
pub forward : (c : Cusip) → is_gt (place_cmp (c, 0) (c, 65535)) ≡ false
forward c = ap (λ r. is_gt (ordering_then r Less)) (tied_itself nat_list_cmp_total c)

-- a place is between them exactly if it is in the issue
is_between : (c : Cusip) (p : Place) → p.1 < 65536 → range_contains place_cmp (Included (c, 0)) (Included (c, 65535)) p ≡ same_issue c p.0
is_between c p h = grind (arith, nat_tests, is_eq-slice_cmp c p.0)

-- the numbers between them are those of the issue
pub range_of_issue : (c : Cusip) (ns : Numbers) → HaveSmallMembers ns → filter (λ e. range_contains place_cmp (Included (c, 0)) (Included (c, 65535)) e.0) ns ≡ in_issue c ns
range_of_issue c [] h = refl
range_of_issue c (e ∷ ns) h = cc (is_between c e.0 (All-head (λ (p : Place). p.1 < 65536) e.0 (keys_of ns) h), range_of_issue c ns (All-tail (λ (p : Place). p.1 < 65536) e.0 (keys_of ns) h))
