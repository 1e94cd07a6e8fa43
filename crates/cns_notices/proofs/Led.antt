-- The numbers that lead to the notices.
-- For `live_of`, `end_issue`, `executed` and `expire` of notices.rt and others.
use Rattle.cns_notices.proofs.Common.{◌≡◌, ⊤, false, refl, ℕ, suc, ◌-◌, ◌<◌, ◌≤◌, true, cond, eqb, List, length, get_or, set, map, Some, None, arith, slice_get, option_map, option_map_or, MatchOption, Cusip, Leads, Member, Noticed, Numbers, bytes_eq-Decides, bytes_refl, changed_at, has_received, is_live, is_live_of, live_number, nat_tests, number_at, receives, slice_get_read, slice_get_within, gets, slice_get-map}
use Rattle.cns_notices.proofs.Items.{first_is, one_changed, same_items, set_is}

-- ---- what the numbers say

module _ {ns : Numbers} {xs : List Noticed} (leads : Leads ns xs) (a : Member) (c : Cusip) where
  -- the number at the place of a live notice is its own
  leads_to : (j : ℕ) (x : Noticed) → slice_get xs j ≡ Some x → is_live_of a c x ≡ true → number_at ns (c, a) ≡ Some (suc j)
  leads_to j x at h = grind (arith, bytes_eq-Decides)

  -- the number of the live notice is the one that leads to it
  pub live_led : MatchOption (live_number xs a c) ⊤ (λ k. number_at ns (c, a) ≡ Some k)
  live_led = grind (arith, first_is (is_live_of a c) 1 xs 0, leads_to)

  -- no number, no live notice
  pub no_number : number_at ns (c, a) ≡ None → live_number xs a c ≡ None
  no_number h = grind (arith, live_led)

  -- a number is that of a notice
  pub number_within : (k : ℕ) → number_at ns (c, a) ≡ Some k → (1 ≤ k) × (k - 1 < length xs)
  number_within k h = grind (arith, leads.there (c, a) k, slice_get_within)

  -- the notice with it is the live one, or there is none
  pub live_there : (k : ℕ) (x : Noticed) → number_at ns (c, a) ≡ Some k → slice_get xs (k - 1) ≡ Some x → is_live x.stage ≡ true → live_number xs a c ≡ Some k
  live_there k x h at live = grind (arith, bytes_refl, leads.there (c, a) k h, first_is (is_live_of a c) 1 xs (k - 1), live_led)

  pub none_there : (k : ℕ) (x : Noticed) → number_at ns (c, a) ≡ Some k → slice_get xs (k - 1) ≡ Some x → is_live x.stage ≡ false → live_number xs a c ≡ None
  none_there k x h at dead = grind (arith, first_is (is_live_of a c) 1 xs (k - 1), live_led)

  -- the live notice alone receives
  pub received_is : (n : ℕ) → map (receives a c n) xs ≡ option_map_or (λ k. changed_at (has_received n) (k - 1) xs) (live_number xs a c) xs
  received_is n = same_items _ _ (λ i. grind (arith, nat_tests, slice_get-map (receives a c n) xs i, one_changed (has_received n), first_is (is_live_of a c) 1 xs i, leads_to i, live_led))

-- the number of a live notice is that of a notice
pub live_within : (xs : List Noticed) (a : Member) (c : Cusip) (k : ℕ) → live_number xs a c ≡ Some k → (1 ≤ k) × (k - 1 < length xs)
live_within xs a c k h = grind (arith, first_is (is_live_of a c) 1 xs 0, slice_get_within)

-- ---- what leaves the numbers as they are

-- a notice after a change: it is as it was given, and did not come to life
abbrev pub Keeps : Noticed → Noticed → Type 0
Keeps x y = (y.given ≡ x.given) × (is_live y.stage ≡ true → is_live x.stage ≡ true)

-- the numbers lead to the notices after such changes
pub kept : (g : ℕ → Noticed → Noticed) {ns : Numbers} {xs : List Noticed} (ys : List Noticed) → Leads ns xs → ((i : ℕ) → slice_get ys i ≡ option_map (g i) (slice_get xs i)) → ((i : ℕ) (x : Noticed) → slice_get xs i ≡ Some x → Keeps x (g i x)) → Leads ns ys
kept g {ns} {xs} ys leads changes keeps =
    let same : length ys ≡ length xs = grind (arith, gets, changes (length xs), changes (length ys)) in
    record {
      there = λ p k h. grind (arith, changes (k - 1), keeps (k - 1), leads.there p k h);
      live = λ i x at l. grind (arith, changes i, keeps i, leads.live i);
      days = λ i j d le lt. grind (arith, gets, same, changes i, changes j, keeps i, keeps j, leads.days i j d);
      count = omega (arith, same, leads.count);
    }

-- after a write of one that keeps
pub set_led : {ns : Numbers} {xs : List Noticed} → Leads ns xs → (k : ℕ) (x y : Noticed) → k < length xs → x ≡ get_or xs k x → Keeps x y → Leads ns (set xs k y)
set_led {ns} {xs} leads k x y lt read keeps = rw (set_is (λ z. y) xs k x y lt read refl) (kept (λ i z. cond (eqb k i) y z) (changed_at (λ z. y) k xs) leads (one_changed (λ z. y) k xs) (λ i z at. grind (arith, nat_tests, slice_get_read xs (length xs) k x)))
