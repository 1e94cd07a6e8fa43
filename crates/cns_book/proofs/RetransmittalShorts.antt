-- The shorts of a close, read off a sheet and given to what is called.
-- For `add_shorts` and `choose_batches` of parts/retransmittal.rt.
use Rattle.cns_book.proofs.Common.{called_in, ◌≡◌, ap, ℕ, ◌+◌, ◌*◌, ◌^◌, ◌≤◌, ◌<◌, ℤ, pos, true, false, cond, ◌==◌, List, [], ◌∷◌, filter, flat_map, length, map, not, of_z, to_z, Option, None, sum_by, arith, filter_map, int_lt, is_some, nat_lt, option_map, unsigned_abs, w64, append_assoc, Account, Activity, AllByRecursion, CalledIn, Contents, Cusip, Day, Follows, HasRoom, Holding, Journal, Key, Member, Row, accounts, bytes_eq-Decides, corporation_limit, each_append, each_weaker, eqb_sym, holding, is_idle, issues, journal, journal_len, members, nat_tests, occurs, oldest, oldest_at, oldest_of, position_limit, row, rows_of, same_issue, sheet_rows, short_at, short_in, short_of, shorts, sum_by-cons, with_shorts, position, oldest_le, with_short, is_short_in, and_left, and_right, ◌∙◌, Bool, ◌||◌, refl, ◌&&◌, nat_cmp, IsSound, above_all, cons_option, filter_map-append, is_listed, is_rising, list_any, nat_list_cmp_total, slice_cmp, not_itself, each_filter, each_map, recursion_from_All}
use Rattle.cns_terms.specs.declared.buy_in.Short.{Short}
use lib.Signed.{le_z}
use Rattle.cns_retransmit.specs.Chosen.{shorts_of}
use Rattle.cns_book.proofs.PendingSteps.{closes_le}
use Rattle.cns_book.proofs.PartsWithin.{rows_within}
use Rattle.std.proofs.lemmas.Int.{ints}

-- one item, or none, before the rest
join : {X : Type 0} (o : Option X) (R F : List X) (A s l : Bool) → cons_option o [] ≡ cond (A && s) F [] → R ≡ cond (A && l) F [] → (s ≡ true → l ≡ false) → cons_option o R ≡ cond (A && (s || l)) F []
join o R F A s l h1 h2 h3 = grind arith

module _ (opening : Day) (J : Journal) (c : Cusip) where
  -- what is read off an account's rows in some issues
  abbrev read_off : Account → List Cusip → List Short
  read_off a cs = filter_map (short_in (oldest J) c) (filter (λ r. not (is_idle r)) (map (row opening J a) cs))

  read_step : (a : Account) (d : Cusip) (cs : List Cusip) → read_off a (d ∷ cs) ≡ cons_option (short_in (oldest J) c (row opening J a d)) (read_off a cs)
  read_step a d cs = grind arith

  one : (a : Account) (d : Cusip) → cons_option (short_in (oldest J) c (row opening J a d)) [] ≡ cond (nat_lt 0 a && same_issue d c) (filter (λ s. nat_lt 0 s.shares) (short_of J c a ∷ [])) []
  one a d = grind (arith, nat_tests, ints, bytes_eq-Decides)

  -- what lies above an issue is another
  others : (d : Cusip) (cs : List Cusip) → same_issue d c ≡ true → above_all (slice_cmp nat_cmp) d cs ≡ true → list_any (λ e. same_issue e c) cs ≡ false
  others d [] h up = refl
  others d (e ∷ cs) h up = grind (arith, bytes_eq-Decides e c, bytes_eq-Decides d c, not_itself nat_list_cmp_total d, others d cs h)

  -- in issues that rise, a member's short is read off once where the issue is among them
  read : (a : Account) (cs : List Cusip) → is_rising (slice_cmp nat_cmp) cs ≡ true → read_off a cs ≡ cond (nat_lt 0 a && list_any (λ d. same_issue d c) cs) (filter (λ s. nat_lt 0 s.shares) (short_of J c a ∷ [])) []
  read a [] up = grind arith
  read a (d ∷ cs) up = read_step a d cs ∙ join _ _ _ _ _ _ (one a d) (read a cs (and_right _ _ up)) (λ e. others d cs e (and_left _ _ up))

  -- and so those of all members
  all : (ms : List Member) → AllByRecursion (λ a. 1 ≤ a) ms → is_rising (slice_cmp nat_cmp) (issues J) ≡ true → is_listed J c ≡ true → filter_map (short_in (oldest J) c) (flat_map (rows_of opening J) ms) ≡ filter (λ s. nat_lt 0 s.shares) (map (short_of J c) ms)
  all [] h up l = refl
  all (a ∷ ms) h up l = grind (arith, filter_map-append, read a (issues J), all ms h.1 up l)

-- the shorts that are read off a sheet in a listed issue are those of its members, by number
pub shorts_off_sheet : (opening : Day) (J : Journal) (c : Cusip) → IsSound J → AllByRecursion (λ a. 1 ≤ a) (members J) → is_listed J c ≡ true → filter_map (short_in (oldest J) c) (sheet_rows opening J) ≡ shorts J c
shorts_off_sheet opening J c s ms l = grind (arith, filter_map-append, read opening J c 0 (issues J) s.issues_rise, all opening J c (members J) ms s.issues_rise l)

-- what is called in an issue once the shorts of some rows are given
abbrev pub with_rows : (Account → Cusip → ℕ) → Cusip → List Row → Option CalledIn → Option CalledIn
with_rows age c rs o = option_map (with_shorts (filter_map (short_in age c) rs)) o

-- a row that is passed over, where nothing is called in the issues in which it is short
pub row_passed : (age : Account → Cusip → ℕ) (c : Cusip) (r : Row) (all rs : List Row) (now first : Option CalledIn) → all ≡ r ∷ rs → with_rows age c all now ≡ first → (is_short_in c r ≡ true → now ≡ None) → with_rows age c rs now ≡ first
row_passed age c r all rs now first h1 h2 h3 = grind arith

-- one that is given
pub row_given : (age : Account → Cusip → ℕ) (c : Cusip) (r : Row) (all rs : List Row) (s : Short) (now after first : Option CalledIn) → all ≡ r ∷ rs → with_rows age c all now ≡ first → nat_lt 0 r.account ≡ true → int_lt r.closing (pos 0) ≡ true → s ≡ short_at age r
    → after ≡ cond (same_issue r.issue c) (option_map (with_short s) now) now → with_rows age c rs after ≡ first
row_given age c r all rs s now after first h1 h2 h3 h4 h5 h6 = grind (arith, append_assoc)

-- where nothing is called in a row's issue, nothing is called where the row is short
pub uncalled_row : (es : List (Cusip × CalledIn)) (c : Cusip) (r : Row) → is_some (called_in es r.issue) ≡ false → is_short_in c r ≡ true → called_in es c ≡ None
uncalled_row es c r h is = grind (arith, bytes_eq-Decides)

pub above_zero : (r : Row) (c : Cusip) → le_z (pos 0) r.closing ≡ true → is_short_in c r ≡ true → ⊥
above_zero r c h1 h2 = grind arith

-- a position that is read as it was written
pub read_back : (q : ℤ) → unsigned_abs q ≤ corporation_limit → to_z w64 (of_z w64 q) ≡ q
read_back q h1 = grind arith

-- an age counts one close more
pub ages_fit : (s : Contents) → HasRoom s → (k : Key) (h : Holding) → ((L : List Activity) → Follows L s → h ≡ holding (journal s.opening L) k.account k.issue) → oldest_of h + 1 < 2 ^ 32
ages_fit s room k h is =
    let J = journal s.opening room.activities in
    omega (arith, ap oldest_of (is room.activities room.follows), oldest_le J k.account k.issue, closes_le J, journal_len s.opening room.activities, room.few)

-- the ages that stand are those of the definitions
pub ages_are : (L : List Activity) (s : Contents) → Follows L s → oldest_at s.rows ≡ oldest (journal s.opening L)
ages_are L s f i a c = oldest_of (f.rows (record { account = a; issue = c }) i)

module _ (J : Journal) (c : Cusip) where
  -- no member is short twice
  pub shorts_once : (a : ℕ) (ms : List Member) → shorts_of a (filter (λ s. nat_lt 0 s.shares) (map (short_of J c) ms)) ≤ occurs a ms
  shorts_once a [] = omega arith
  shorts_once a (m ∷ ms) = grind (arith, nat_tests, sum_by-cons (λ (s : Short). cond (s.member == a) 1 0) (short_of J c m) (filter (λ s. nat_lt 0 s.shares) (map (short_of J c) ms)), eqb_sym m a, shorts_once a ms)

  -- nor for more than a member may be
  pub few : ((a : Account) → 1 ≤ a → unsigned_abs (position J a c) ≤ position_limit) → (ms : List Member) → AllByRecursion (λ a. 1 ≤ a) ms → sum_by (λ s. s.shares) (filter (λ s. nat_lt 0 s.shares) (map (short_of J c) ms)) ≤ position_limit * length ms
  few w [] h = omega arith
  few w (m ∷ ms) h = grind (arith, w m h.0, sum_by-cons (λ (s : Short). s.shares) (short_of J c m) (filter (λ s. nat_lt 0 s.shares) (map (short_of J c) ms)), few w ms h.1)

-- a row closes with the position
closings_are : (opening : Day) (J : Journal) (bs : List Account) → AllByRecursion (λ r. r.closing ≡ position J r.account r.issue) (flat_map (rows_of opening J) bs)
closings_are opening J [] = tt
closings_are opening J (b ∷ bs) = grind (arith, each_append, each_filter (λ (r : Row). r.closing ≡ position J r.account r.issue) (λ r. not (is_idle r)) (map (row opening J b) (issues J)) (each_map (λ (r : Row). r.closing ≡ position J r.account r.issue) (row opening J b) (issues J) (recursion_from_All (λ c. position J b c ≡ position J b c) (issues J) (λ i d lt. refl))), closings_are opening J bs)

-- which is within its limits
pub closings_few : (s : Contents) (room : HasRoom s) (rs : List Row) → rs ≡ sheet_rows s.opening (journal s.opening room.activities) → AllByRecursion (λ r. unsigned_abs r.closing ≤ corporation_limit) rs
closings_few s room rs is =
    rw is (each_weaker (λ (r : Row). r.closing ≡ position (journal s.opening room.activities) r.account r.issue) (λ r. unsigned_abs r.closing ≤ corporation_limit) (sheet_rows s.opening (journal s.opening room.activities))
    (λ r e. rw (e, ← ap (λ (h : Holding). h.now) (room.follows.rows (record { account = r.account; issue = r.issue }))) ((rows_within s room).shares (record { account = r.account; issue = r.issue }))) (closings_are s.opening (journal s.opening room.activities) (accounts (journal s.opening room.activities))))
