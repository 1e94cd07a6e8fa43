-- A notice more, the notices of an issue ended, and those of a day expired.
-- For `end_issue` of notices.rt; `expire_from` and `span` of changes.rt, `expire` of notices.rt; `open` of notices.rt.
use Rattle.cns_notices.proofs.Common.{◌≡◌, ◌∙◌, ◌&&◌, is_live, is_some, ℕ, ◌-◌, ◌<◌, ◌≤◌, true, cond, eqb, option_map, List, [], ◌∷◌, length, map, Some, arith, All, slice_get, AllByRecursion, Cusip, Ended, Leads, Noticed, Numbers, Place, brought_to, each_weaker, ended, ended_each, equal, list_any, number_at, same_issue, slice_get_within, nat_tests, recursion_from_All, slice_get-map, in_issue, sym, refl, false, ltb, leb, take, drop, get_or-drop, get_or-take, length-drop, length-take, length-append, Expired, IsPartitionPoint, expired, expired_from, new_notice, ◌+◌, ◌^◌, ◌++◌, get_or, None, is_eq, is_live_of, live_number, tied_itself, bytes_refl, IsNonDecreasingBy-push, slice_get-get_or, Given, place_cmp, place_of}
use Rattle.cns_notices.proofs.Items.{agree, one_changed, same_items, first_is, one_more}
use Rattle.cns_notices.proofs.Places.{exact_places, places_total}
use Rattle.std.proofs.lemmas.List.{length-map, get_or-map, same_lists, get_or-append_right, get_or_append_left}
use borrow.Rule.Slice.PartMut.{mid_of, put_mid}
use Rattle.cns_notices.specs.Noticed.{notice_at}

-- the notices of the numbers have ended, and the others are as they were
ended_items : (ns : Numbers) (xs : List Noticed) (i : ℕ) → slice_get (ended_each ns xs) i ≡ option_map (λ x. cond (list_any (λ e. eqb (e.1 - 1) i) ns) (brought_to Ended x) x) (slice_get xs i)
ended_items [] xs i = grind arith
ended_items (e ∷ ns) xs i = grind (arith, ended_items ns (ended_each (e ∷ []) xs) i, one_changed (brought_to Ended) (e.1 - 1) xs i)

module _ (c : Cusip) (ns : Numbers) (xs : List Noticed) (leads : Leads ns xs) where
  -- whether the number of a live notice is among those of the issue
  listed : (es : Numbers) (i : ℕ) (x : Noticed) → slice_get xs i ≡ Some x → is_live x.stage ≡ true → AllByRecursion (λ e. number_at ns e.0 ≡ Some e.1) (in_issue c es)
      → list_any (λ e. eqb (e.1 - 1) i) (in_issue c es) ≡ (same_issue c x.given.issue && is_some (number_at es (place_of x)))
  listed [] i x at live found = grind arith
  listed (e ∷ es) i x at live found = grind (arith, nat_tests, equal, exact_places (place_of x) e.0, tied_itself places_total (place_of x), leads.there e.0 e.1, leads.live i x at live, listed es i x at live)

  module _ (es : Numbers) (found : All (λ e. number_at ns e.0 ≡ Some e.1) es) where
    each : AllByRecursion (λ e. number_at ns e.0 ≡ Some e.1) es
    each = recursion_from_All (λ (e : Place × ℕ). number_at ns e.0 ≡ Some e.1) es found

    -- they are numbers of notices
    pub within_all : AllByRecursion (λ e. (0 < e.1) × (e.1 ≤ length xs)) es
    within_all = each_weaker _ _ es (λ e h. grind (arith, leads.there e.0 e.1 h, slice_get_within)) each

    -- to end each of them is to end those of the issue
    pub ends_issue : es ≡ in_issue c ns → ended_each es xs ≡ map (ended c) xs
    ends_issue is = same_items _ _ (λ i. ended_items es xs i ∙ agree _ (ended c) (slice_get xs i) (λ x at. grind (arith, is, leads.live i x at, listed ns i x at, rw is at each)) ∙ sym (slice_get-map (ended c) xs i))

module _ (xs : List Noticed) (day i j : ℕ) (order : i ≤ j) (high : j ≤ length xs)
    (starts : IsPartitionPoint (λ x. ltb x.given.day day ≡ true) (λ x. ltb x.given.day day ≡ false) xs i)
    (ends : IsPartitionPoint (λ x. leb x.given.day day ≡ true) (λ x. leb x.given.day day ≡ false) xs j) where
  -- a change of the middle part is one of the notices of the day
  pub expired_part : (part : List Noticed) → part ≡ map (brought_to Expired) (mid_of i (j - i) xs) → put_mid i (j - i) xs part ≡ map (expired_from day) xs
  expired_part part is =
      rw is (sym (same_lists (map (expired_from day) xs) _ (grind (arith, length-append, length-map, length-take, length-drop))
      (λ k d lt. grind (arith, nat_tests, starts.0 k d, starts.1 k d, ends.0 k d, ends.1 k d, get_or-map (expired_from day) xs k d d, get_or-take, get_or-drop, get_or_append_left, get_or-append_right, length-take, length-drop, length-map, get_or-map (brought_to Expired) (take (j - i) (drop i xs)) (k - i) d d))))

-- no notice was given two days before the first day or the second
pub none_expired : (xs : List Noticed) (day : ℕ) → day < 2 → map (expired day) xs ≡ xs
none_expired [] day lt = refl
none_expired (x ∷ xs) day lt = grind (arith, nat_tests, none_expired xs day lt)

-- the numbers lead to the notices with one more
module _ (ns new : Numbers) (xs : List Noticed) (g : Given) (alone : live_number xs g.member g.issue ≡ None) (put : (p : Place) → number_at new p ≡ cond (is_eq (place_cmp (g.issue, g.member) p)) (Some (length xs + 1)) (number_at ns p)) (leads : Leads ns xs)
    (days : (x : Noticed) → notice_at xs (length xs) ≡ Some x → x.given.day ≤ g.day) (room : length xs + 1 < 2 ^ 32) where
  pub opened_led : Leads new (xs ++ new_notice g ∷ [])
  opened_led = record {
    there = λ p k h. grind (arith, nat_tests, put p, leads.there p k, equal, exact_places (g.issue, g.member) p, one_more xs (new_notice g) (k - 1), slice_get_within);
    live = λ i x at l. grind (arith, nat_tests, put (place_of x), leads.live i x, equal, exact_places (g.issue, g.member) (place_of x), one_more xs (new_notice g) i, first_is (is_live_of g.member g.issue) 1 xs i, alone, bytes_refl, tied_itself places_total (g.issue, g.member));
    days = IsNonDecreasingBy-push (λ (x : Noticed). x.given.day) xs (new_notice g) leads.days (λ d lt. days (get_or xs (length xs - 1) d) (slice_get-get_or xs (length xs - 1) d (omega arith)));
    count = omega (arith, room, length-append xs (new_notice g ∷ []));
  }
