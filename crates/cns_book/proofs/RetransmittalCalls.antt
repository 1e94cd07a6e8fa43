-- What the notices of the open day call for.
-- For `calls_of_day` of parts/retransmittal.rt.
use Rattle.cns_book.proofs.Common.{◌++◌, ◌≡◌, ◌∙◌, refl, ℕ, ◌+◌, ◌-◌, ◌^◌, ◌≤◌, ◌<◌, false, cond, ◌&&◌, ◌==◌, List, [], ◌∷◌, filter, length, map, take, Some, sum_by, arith, option_map, option_map_or, get_or, Activity, AllByRecursion, CalledIn, Contents, Cusip, Follows, ForSome, HasRoom, IsNonDecreasingBy, Journal, Notice, Noticed, bytes_eq-Decides, called, called_by, called_in, day, days_by, each_map, journal, nat_tests, notices, remaining, remaining_by, same_issue, shares_limit, shorts_in, sum_by-cons, total_in, min-le_left, slice_get-get_or, Given, None, bytes_refl, ◌⊎◌, length-take, new_notice, live_received, kept, call_of, map-append, All-from_recursion, kept_at, get_or-take, IsNonDecreasingBy-push, notice, noticed}
use Rattle.std.proofs.lemmas.List.Sums.{sum_by-le, sum_by_more}
use Rattle.cns_book.proofs.PartsWithin.{given_few, last_day, notices_fit}

-- no notice is of a day before that of an earlier one
days_rise : (K J : Journal) → IsNonDecreasingBy (λ x. x.given.day) (map (kept K) (notices J))
days_rise K [] = λ i j d le lt. absurd (omega arith)
days_rise K (p ∷ J) = elim (noticed p.activity) as (λ o. IsNonDecreasingBy (λ x. x.given.day) (map (kept K) (option_map_or (λ m. notices J ++ (notice (length (notices J) + 1) (day J) m ∷ [])) o (notices J)))) [
  | None ↦ days_rise K J
  | Some m ↦ rw map-append (IsNonDecreasingBy-push (λ (x : Noticed). x.given.day) (map (kept K) (notices J)) _ (days_rise K J) (λ d lt. All-from_recursion (λ (x : Noticed). x.given.day ≤ day J) (map (kept K) (notices J)) (each_map (λ (x : Noticed). x.given.day ≤ day J) (kept K) (notices J) (days_by J)) _ d (omega (arith, lt))))
]

-- where the last of the first so many notices is of an earlier day, they call for nothing
pub none_earlier : (s : Contents) → HasRoom s → (k : ℕ) (c : Cusip) → k ≤ length s.notices → (1 ≤ k → ForSome (kept_at s.notices k) (λ x. (x.given.day == s.closes + 1) ≡ false)) → called_by s.rows (s.closes + 1) c (take k s.notices) ≡ 0
none_earlier s room k c le other =
    let J = journal s.opening room.activities in
    let rise : IsNonDecreasingBy (λ x. x.given.day) s.notices = rw room.follows.notices (days_rise J J) in
    omega (arith, sum_by-le (call_of s.rows (s.closes + 1) c) 0 (take k s.notices) (λ i d lt. grind (arith, nat_tests, length-take k s.notices, get_or-take k s.notices i d, slice_get-get_or s.notices (k - 1) d, other (omega (arith, lt, length-take k s.notices)) (get_or s.notices (k - 1) d), last_day s room k (get_or s.notices (k - 1) d), rise i (k - 1) d)))

-- one notice more
called_more : (s : Contents) (n : ℕ) (g : Given) (m : ℕ) (c : Cusip) → 1 ≤ n → n ≤ length s.notices → Some g ≡ option_map (λ (x : Noticed). x.given) (kept_at s.notices n) → Some m ≡ option_map (remaining_by s.rows) (kept_at s.notices n)
    → called_by s.rows (s.closes + 1) c (take n s.notices) ≡ called_by s.rows (s.closes + 1) c (take (n - 1) s.notices) + cond ((g.day == s.closes + 1) && same_issue g.issue c) m 0
called_more s n g m c some le given remains = grind (arith, sum_by_more (call_of s.rows (s.closes + 1) c) s.notices (n - 1) (new_notice g), slice_get-get_or s.notices (n - 1) (new_notice g))

-- what remains of a kept notice
pub remaining_same : (L : List Activity) (s : Contents) → Follows L s → (n : Notice) → remaining_by s.rows (kept (journal s.opening L) n) ≡ remaining (journal s.opening L) n
remaining_same L s f n = grind (arith, live_received (journal s.opening L) n, f.rows (record { account = n.given.member; issue = n.given.issue }))

called_each : (L : List Activity) (s : Contents) → Follows L s → (c : Cusip) (ns : List Notice) → called_by s.rows (day (journal s.opening L)) c (map (kept (journal s.opening L)) ns) ≡ sum_by (remaining (journal s.opening L)) (filter (λ n. (n.given.day == day (journal s.opening L)) && same_issue n.given.issue c) ns)
called_each L s f c [] = refl
called_each L s f c (n ∷ ns) = grind (arith, remaining_same L s f n, sum_by-cons (call_of s.rows (day (journal s.opening L)) c) (kept (journal s.opening L) n) (map (kept (journal s.opening L)) ns), sum_by-cons (remaining (journal s.opening L)) n (filter (λ n. (n.given.day == day (journal s.opening L)) && same_issue n.given.issue c) ns), called_each L s f c ns)

-- what all of them call for
pub called_is : (L : List Activity) (s : Contents) → Follows L s → (c : Cusip) → called_by s.rows (s.closes + 1) c s.notices ≡ called (journal s.opening L) c
called_is L s f c = (λ i. called_by s.rows (f.clock.closes i + 1) c (f.notices i)) ∙ called_each L s f c (notices (journal s.opening L))

called_fit : (s : Contents) → HasRoom s → (c : Cusip) → called_by s.rows (s.closes + 1) c s.notices < 2 ^ 64
called_fit s room c =
    let few : AllByRecursion (λ x. x.given.shares ≤ shares_limit) s.notices = rw room.follows.notices (each_map (λ (x : Noticed). x.given.shares ≤ shares_limit) (kept (journal s.opening room.activities)) (notices (journal s.opening room.activities)) (given_few s.opening room.activities room.follows.reached)) in
    omega (arith, notices_fit s room, sum_by-le (call_of s.rows (s.closes + 1) c) shares_limit s.notices (λ k d lt. grind (arith, min-le_left, All-from_recursion (λ (x : Noticed). x.given.shares ≤ shares_limit) s.notices few k d lt)))

-- what was called, where so many notices are left
pub record AreCalled (s : Contents) (k : ℕ) (es : List (Cusip × CalledIn)) : Type 0 where
  pub totals : (c : Cusip) → total_in es c + called_by s.rows (s.closes + 1) c (take k s.notices) ≡ called_by s.rows (s.closes + 1) c s.notices
  pub shorts : (c : Cusip) → shorts_in es c ≡ []
  pub some : (c : Cusip) → ForSome (called_in es c) (λ x. 1 ≤ x.total)

-- what one notice more of the day calls for fits
pub call_fits : (s : Contents) → HasRoom s → (n : ℕ) (g : Given) (m : ℕ) (es : List (Cusip × CalledIn)) → 1 ≤ n → n ≤ length s.notices → Some g ≡ option_map (λ (x : Noticed). x.given) (kept_at s.notices n) → Some m ≡ option_map (remaining_by s.rows) (kept_at s.notices n) → g.day ≡ s.closes + 1
    → AreCalled s n es → total_in es g.issue + m < 2 ^ 64
call_fits s room n g m es some le given remains today h = grind (arith, nat_tests, bytes_refl g.issue, h.totals g.issue, called_fit s room g.issue, called_more s n g m g.issue)

-- and is called, unless it is nothing
pub called_next : (s : Contents) (n : ℕ) (g : Given) (m : ℕ) (es fs : List (Cusip × CalledIn)) → 1 ≤ n → n ≤ length s.notices → Some g ≡ option_map (λ (x : Noticed). x.given) (kept_at s.notices n) → Some m ≡ option_map (remaining_by s.rows) (kept_at s.notices n) → g.day ≡ s.closes + 1
    → ((m ≡ 0) × (fs ≡ es)) ⊎ ((1 ≤ m) × ((c : Cusip) → called_in fs c ≡ cond (same_issue g.issue c) (Some (record { total = total_in es g.issue + m; shorts = shorts_in es g.issue })) (called_in es c))) → AreCalled s n es → AreCalled s (n - 1) fs
called_next s n g m es fs some le given remains today step h = record {
  totals = λ c. grind (arith, nat_tests, bytes_eq-Decides g.issue c, h.totals c, called_more s n g m c);
  shorts = λ c. grind (arith, h.shorts c, h.shorts g.issue);
  some = λ c y e. grind (arith, h.some c);
}
