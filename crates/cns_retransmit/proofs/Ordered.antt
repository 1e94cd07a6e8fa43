-- Shorts in the order of filling.
-- For `choose` and `in_filling_order` of choice.rt.
use Rattle.cns_retransmit.proofs.Common.{◌&&◌, ◌≡◌, ◌∙◌, sym, ap, refl, ℕ, suc, ◌+◌, ◌<◌, ◌≤◌, Bool, true, false, List, [], ◌∷◌, length, get_or, nat_eq, sum_by, arith, IsPermutation, is_lt, nat_cmp, add-one, IsOldestFirst, Member, NoneOlder, Short, fills_before, in_order, nat_tests, ordering_then, shorts_of, sum_by-cons, above_all, is_rising, list_any, Ordering, is_eq}
use Rattle.std.proofs.lemmas.List.Sorted.{sum_by-IsPermutation}
use Rattle.std.specs.Cmp.{IsTotalOrder}
use mathlib.Core.Path.{fun_ext}
use Rattle.cns_terms.proofs.Facts.{same_order as sum_of_order}
use Rattle.cns_terms.proofs.Rising.{above_through, rising_put}
use Rattle.cns_retransmit.proofs.Lists.{many_more, one_if, places_apart, rest_once}

-- whose a short is
abbrev of : Short → Member
of s = s.member

-- the order changes no sum
pub sum_in_order : {X : Type 0} (f : X → ℕ) (before : X → X → Bool) (xs : List X) → sum_by f (in_order before xs) ≡ sum_by f xs
sum_in_order f = sum_of_order (sum_by f) (λ x n. f x + n) (sum_by-cons f) (λ x y n. omega arith)

-- ---- the order

-- the oldest first, then by member
abbrev pub order : Short → Short → Ordering
order s t = ordering_then (nat_cmp t.age s.age) (nat_cmp s.member t.member)

order_total : IsTotalOrder order
order_total = record { antisymm = λ s t. grind (arith, nat_tests); trans = λ s t u. grind (arith, nat_tests); congr = λ s t u. grind (arith, nat_tests) }

before_is : (λ s t. is_lt (order s t)) ≡ fills_before
before_is = fun_ext (λ s. fun_ext (λ t. grind (arith, nat_tests)))

none_older : (s : Short) (ts : List Short) → above_all order s ts ≡ true → NoneOlder s.age ts
none_older s [] h = tt
none_older s (t ∷ ts) h = grind (arith, nat_tests, none_older s ts)

-- in the order of filling the oldest come first
pub oldest_first : (ss : List Short) → is_rising order ss ≡ true → IsOldestFirst ss
oldest_first [] h = tt
oldest_first (s ∷ ss) h = grind (arith, none_older s ss, oldest_first ss)

absent : (s : Short) (ts : List Short) → shorts_of s.member ts ≡ 0 → list_any (λ t. is_eq (order s t)) ts ≡ false
absent s [] none = refl
absent s (t ∷ ts) none = grind (arith, nat_tests, many_more of s.member t ts, absent s ts)

-- shorts of distinct members, in the order of filling
pub order_is : (ss : List Short) → ((a : Member) → shorts_of a ss ≤ 1) → is_rising order (in_order fills_before ss) ≡ true
order_is [] once = refl
order_is (s ∷ ss) once = rw (← before_is) (rising_put order_total s (in_order fills_before ss) (order_is ss (rest_once of s ss once).1) (absent s (in_order fills_before ss) (sum_in_order _ fills_before ss ∙ (rest_once of s ss once).0)))

-- ---- a sort

-- whether two shorts are one
abbrev same : Short → Short → Bool
same s t = nat_eq s.member t.member && nat_eq s.age t.age && nat_eq s.shares t.shares

-- one that stands among those after another comes after it
later : (s t : Short) (us : List Short) → above_all order s us ≡ true → 0 < sum_by (λ u. one_if (same u t)) us → is_lt (order s t) ≡ true
later s t [] h some = absurd (omega arith)
later s t (u ∷ us) h some = grind (arith, nat_tests, sum_by-cons (λ u. one_if (same u t)) u us, later s t us)

-- two lists in order whose sums are the same are the same
same_order : (us vs : List Short) → is_rising order us ≡ true → is_rising order vs ≡ true → ((f : Short → ℕ) → sum_by f us ≡ sum_by f vs) → us ≡ vs
same_order [] [] h k sums = refl
same_order [] (v ∷ vs) h k sums = absurd (omega (arith, sums (λ s. 1), sum_by-cons (λ s. 1) v vs))
same_order (u ∷ us) [] h k sums = absurd (omega (arith, sums (λ s. 1), sum_by-cons (λ s. 1) u us))
same_order (u ∷ us) (v ∷ vs) h k sums =
    let cons : (f : Short → ℕ) → f u + sum_by f us ≡ f v + sum_by f vs = λ f. rw (← sum_by-cons f u us, ← sum_by-cons f v vs) (sums f) in
    let first : u ≡ v = grind (arith, nat_tests, cons (λ t. one_if (same t u)), cons (λ t. one_if (same t v)), later u v us, later v u vs) in
    cc (first, same_order us vs (grind arith) (grind arith) (λ f. omega (arith, cons f, ap f first)))

-- what a sort leaves of distinct members is in order
sorted_in_order : (ss : List Short) → ((a : Member) → shorts_of a ss ≤ 1) → ((k : ℕ) (d : Short) → suc k < length ss → is_lt (order (get_or ss (suc k) d) (get_or ss k d)) ≡ false) → is_rising order ss ≡ true
sorted_in_order [] once up = refl
sorted_in_order (s ∷ []) once up = refl
sorted_in_order (s ∷ t ∷ ts) once up = grind (arith, nat_tests, up 0 s, places_apart of (s ∷ t ∷ ts) 0 1 s once, above_through order_total s t ts, sorted_in_order (t ∷ ts) (rest_once of s (t ∷ ts) once).1 (λ k d h. up (suc k) d (omega arith)))

-- a sort puts shorts of distinct members into the order of filling
pub sorted_is : (xs ys : List Short) → ((a : Member) → shorts_of a xs ≤ 1) → IsPermutation xs ys → ((k : ℕ) (d : Short) → k + 1 < length ys → is_lt (order (get_or ys (k + 1) d) (get_or ys k d)) ≡ false) → ys ≡ in_order fills_before xs
sorted_is xs ys once p up =
    let same : (f : Short → ℕ) → sum_by f ys ≡ sum_by f xs = λ f. sum_by-IsPermutation f xs ys p in
    same_order ys (in_order fills_before xs) (sorted_in_order ys (λ a. omega (arith, same (λ s. one_if (nat_eq s.member a)), once a)) (λ k d h. rw (add-one k) at (up k d (omega arith)))) (order_is xs once) (λ f. same f ∙ sym (sum_in_order f fills_before xs))
