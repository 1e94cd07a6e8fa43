-- Whom a close makes liable, from what is called and who is short.
-- For `choose_batches` of parts/retransmittal.rt and `close_day` of parts/closing.rt, clause step.
use Rattle.cns_book.proofs.Common.{◌≡◌, ◌∙◌, ap, sym, subst, refl, suc, ◌+◌, ◌*◌, ◌^◌, ◌≤◌, ◌<◌, Bool, true, false, ◌&&◌, ◌==◌, List, [], ◌∷◌, filter, flat_map, length, map, Some, None, sum_by, arith, nat_cmp, filter_map, nat_lt, option_map, IfOk, OnOk, Result, mul-le-mul_right, length-append, same_Some, Activity, AllByRecursion, CalledIn, Contents, Cusip, Day, Follows, ForSome, IsReached, IsSound, Journal, Liable, Liables, Notice, Row, batch_at, batch_since, batches_of, batches_since, bytes_eq-Decides, called, called_by, called_in, day, history_limit, is_listed, is_sorted, issues, issues_few, journal, journal_len, length-map, limited, members, members_few, members_from_one, nat_tests, near, notices, oldest_at, remaining, same_issue, sheet_rows, short_in, shorts, shorts_in, slice_cmp, sum_by-cons, total_in, with_shorts, liable_at, batch_new, unfilled, IsNoticed, CanBeChosen, none_called, cond, bytes_eq, below_all, chosen, exact_bytes, find_filter, find_with, is_rising, list_any, nat_list_cmp_total, option_map_or, same_lists, same_test, sorted_filter, sorted_with, batch_of, filter_len, map-map, same_order, fills_before}
use Rattle.cns_book.proofs.RetransmittalShorts.{shorts_off_sheet, ages_are, few, shorts_once}
use Rattle.cns_book.proofs.PartsStaying.{in_issue}
use Rattle.cns_book.proofs.RetransmittalCalls.{called_is}
use Rattle.std.specs.FinMap.{find}

-- whether anybody is liable
abbrev has_members : Liables → Bool
has_members b = nat_lt 0 (length b.members)

-- each issue with its batch
abbrev with_batches : List (Cusip × CalledIn) → List (Cusip × Liables)
with_batches es = map (λ e. (e.0, batch_of e)) es

below_batches : (c : Cusip) (es : List (Cusip × CalledIn)) → below_all (slice_cmp nat_cmp) c es ≡ true → below_all (slice_cmp nat_cmp) c (with_batches es) ≡ true
below_batches c [] h = refl
below_batches c (e ∷ es) h = grind (arith, below_batches c es)

sorted_batches : (es : List (Cusip × CalledIn)) → is_sorted (slice_cmp nat_cmp) es ≡ true → is_sorted (slice_cmp nat_cmp) (with_batches es) ≡ true
sorted_batches [] h = refl
sorted_batches (e ∷ es) h = grind (arith, below_batches e.0 es, sorted_batches es)

-- the batch of an issue
find_batch : (c : Cusip) (es : List (Cusip × CalledIn)) → find (slice_cmp nat_cmp) c (with_batches es) ≡ option_map (λ x. batch_of (c, x)) (called_in es c)
find_batch c [] = refl
find_batch c (e ∷ es) = grind (arith, bytes_eq-Decides, same_test, find_batch c es)

-- the values of a filtered list
filtered_values : (es : List (Cusip × Liables)) → map (λ e. e.1) (filter (λ e. has_members e.1) es) ≡ filter has_members (map (λ e. e.1) es)
filtered_values [] = refl
filtered_values (e ∷ es) = grind (arith, filtered_values es)

-- lists that have the same batches
alike : (xs ys : List (Cusip × Liables)) → is_sorted (slice_cmp nat_cmp) xs ≡ true → is_sorted (slice_cmp nat_cmp) ys ≡ true → ((c : Cusip) → find (slice_cmp nat_cmp) c (filter (λ e. has_members e.1) xs) ≡ find (slice_cmp nat_cmp) c (filter (λ e. has_members e.1) ys)) → filter has_members (map (λ e. e.1) xs) ≡ filter has_members (map (λ e. e.1) ys)
alike xs ys s t same =
    sym (filtered_values xs)
    ∙ ap (map (λ e. e.1)) (same_lists nat_list_cmp_total exact_bytes _ _ (sorted_filter nat_list_cmp_total has_members xs s) (sorted_filter nat_list_cmp_total has_members ys t) same)
    ∙ filtered_values ys

-- the batches of what is called are those of the issues
pub batches_same : (g : Cusip → List Liable) (cs : List Cusip) (es : List (Cusip × CalledIn)) → is_rising (slice_cmp nat_cmp) cs ≡ true → is_sorted (slice_cmp nat_cmp) es ≡ true → ((c : Cusip) → option_map_or (λ x. chosen x.shorts x.total) (called_in es c) [] ≡ cond (list_any (λ d. bytes_eq d c) cs) (g c) []) → batches_of es ≡ filter has_members (map (λ c. record { issue = c; members = g c }) cs)
batches_same g cs es rising sorted h =
    let p : Cusip → Liables = λ c. record { issue = c; members = g c } in
    let s = sorted_batches es sorted in let t = sorted_with p cs rising in
    ap (filter has_members) (sym (map-map (λ e. e.1) (λ e. (e.0, batch_of e)) es))
    ∙ alike (with_batches es) (map (λ c. (c, p c)) cs) s t (λ c.
    grind (arith, find_filter nat_list_cmp_total has_members c (with_batches es) s, find_batch c es, h c, find_with p c cs, find_filter nat_list_cmp_total has_members c (map (λ c. (c, p c)) cs) t))
    ∙ ap (filter has_members) (map-map (λ e. e.1) (λ c. (c, p c)) cs)

-- in an issue that is not listed nothing is called
nothing : (J : Journal) (c : Cusip) (ns : List Notice) → is_listed J c ≡ false → AllByRecursion (IsNoticed J) ns → filter (λ n. (n.given.day == day J) && same_issue n.given.issue c) ns ≡ []
nothing J c [] none h = refl
nothing J c (n ∷ ns) none h = grind (arith, bytes_eq-Decides, h.0.1, nothing J c ns none h.1)

pub uncalled : (J : Journal) (c : Cusip) → IsSound J → is_listed J c ≡ false → called J c ≡ 0
uncalled J c s none = ap (sum_by (remaining J)) (nothing J c (notices J) none s.noticed)

module _ (L : List Activity) (s : Contents) (f : Follows L s) (rs : List Row) (sheet : rs ≡ sheet_rows s.opening (journal s.opening L)) (before es : List (Cusip × CalledIn)) (totals : (c : Cusip) → total_in before c ≡ called_by s.rows (s.closes + 1) c s.notices) (none : (c : Cusip) → shorts_in before c ≡ []) (some : (c : Cusip) → ForSome (called_in before c) (λ x. 1 ≤ x.total))
    (given : (c : Cusip) → called_in es c ≡ option_map (with_shorts (filter_map (short_in (oldest_at s.rows) c) rs)) (called_in before c)) where
  abbrev now : Journal
  now = journal s.opening L

  -- what stands in an issue is called in a listed one, for the shorts of the definitions
  in_listed : (c : Cusip) (x : CalledIn) → called_in before c ≡ Some x → (is_listed now c ≡ true) × (called_in es c ≡ Some (record { total = called now c; shorts = shorts now c }))
  in_listed c x is =
      let l = limited s.opening L f.reached in
      let listed : is_listed now c ≡ true = grind (arith, uncalled now c l.whole.now, some c x is, totals c, called_is L s f c) in
      let all = (λ i. filter_map (short_in (ages_are L s f i) c) (sheet i)) ∙ shorts_off_sheet s.opening now c l.whole.now (members_from_one s.opening now l) listed in
      grind (arith, given c, none c, totals c, called_is L s f c)

  -- the shorts of each issue can be chosen from
  pub can_choose : (c : Cusip) → ForSome (called_in es c) CanBeChosen
  can_choose c y is = elim (called_in before c) as (λ o. called_in before c ≡ o → CanBeChosen y) [
    | None ↦ λ none. let is' = given c in absurd (cc)
    | Some x ↦ λ some. let l = limited s.opening L f.reached in subst CanBeChosen (same_Some _ _ (sym (in_listed c x some).1 ∙ is)) (record { distinct = λ a. omega (arith, shorts_once now c a (members now), l.whole.now.distinct a); fits = omega (arith, few now c (λ a m. near _ _ _ (l.within a c m)) (members now) (members_from_one s.opening now l), members_few s.opening now l) })
  ] refl

  -- the batches that are chosen are those of the definitions
  pub chosen_same : is_sorted (slice_cmp nat_cmp) es ≡ true → batches_of es ≡ batches_since now now
  chosen_same sorted =
      let l = limited s.opening L f.reached in
      batches_same (batch_since now now) (issues now) es l.whole.now.issues_rise sorted
      (λ c. grind (arith, in_listed c, batch_new now now c (λ a. unfilled s.opening L (day now) c a f.reached (omega arith)), given c, totals c, called_is L s f c, uncalled now c l.whole.now, none_called (shorts now c)))

-- batches without anybody add nothing
pub sum_of : (g : Cusip → List Liable) (cs : List Cusip) → sum_by (λ b. length b.members) (filter (λ b. nat_lt 0 (length b.members)) (map (in_issue g) cs)) ≡ length (flat_map g cs)
sum_of g [] = refl
sum_of g (c ∷ cs) = grind (arith, nat_tests, sum_by-cons (λ (b : Liables). length b.members) (in_issue g c) (filter (λ b. nat_lt 0 (length b.members)) (map (in_issue g) cs)), length-append, sum_of g cs)

-- the members that are liable by a close
pub liable_counted : (opening : Day) (L : List Activity) (bs : List Liables) → IsReached opening L → bs ≡ batches_since (journal opening L) (journal opening L) → sum_by (λ b. length b.members) bs ≡ length (liable_at (journal opening L))
liable_counted opening L bs r is = rw is (sum_of (batch_since (journal opening L) (journal opening L)) (issues (journal opening L)) ∙ (λ i. length (flat_map (λ c. batch_new (journal opening L) (journal opening L) c (λ a. unfilled opening L (day (journal opening L)) c a r (omega arith)) i) (issues (journal opening L)))))

-- no batch has more members than there are
batch_few : (J : Journal) (c : Cusip) → length (batch_at J c) ≤ length (members J)
batch_few J c = grind (arith, length-map, filter_len, same_order length (λ s n. suc n) (λ s ss. refl) (λ s t n. refl) fills_before (shorts J c))

batches_few : (J : Journal) (cs : List Cusip) → length (flat_map (batch_at J) cs) ≤ length (members J) * length cs
batches_few J [] = omega arith
batches_few J (c ∷ cs) = omega (arith, length-append (batch_at J c) (flat_map (batch_at J) cs), batch_few J c, batches_few J cs)

-- they can be counted
pub liable_few : (opening : Day) (L : List Activity) → IsReached opening L → length L + 1 < history_limit → length (liable_at (journal opening L)) < 2 ^ 64
liable_few opening L r few = grind (arith, limited opening L r, batches_few (journal opening L) (issues (journal opening L)), mul-le-mul_right (length (issues (journal opening L))) (members_few opening (journal opening L) (limited opening L r)), issues_few, journal_len)

-- two things that are said of a value that was made
pub ok_both : {X E Q : Type 0} (r : Result X E) (P R : X → Type 0) → IfOk r P → OnOk r Q → ((x : X) → P x → Q → R x) → IfOk r R
ok_both r P R h1 h2 h3 = grind arith
