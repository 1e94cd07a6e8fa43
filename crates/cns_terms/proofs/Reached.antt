-- What is so of each journal that commands reach.
use Rattle.cns_terms.proofs.Facts.{◌≡◌, ap, ℕ, ◌+◌, ◌*◌, ◌≤◌, ◌<◌, true, List, [], ◌∷◌, length, is_none, arith, filter_map, unsigned_abs, nat_cmp, IfSome, None, Option, Some, int_eq, map, mul-le-mul_left, not, pos, refl, ℤ, flat_map, Account, Activity, AllByRecursion, Command, Cusip, Day, Declared, IsReached, Journal, State, account_lt, accounts, activities, after, booking_limit, closings, dividends, journal, member_limit, members, money, next, opened, position_limit, Posting, posting, price, price_limit, rate_limit, Entry, Execution, IsInRange, Notice, Price, Ratio, against_corporation, execution_entries, holders, in_exchange, in_lieu, money_limit, new_entry, notice_at, old_entry, option_map_or, Pend, entries, trade_entries, mul-le-mul, ratio_limit, rules, split_entry, Bounds, IsBounded, Reaches, member_added, IsCommandInRange, IsRatio, and_left, ints, nat_tests, position, unsigned_abs-mul, due}
use Rattle.cns_terms.proofs.BuyIns.{IsExecutable, execution_cents, execution_balanced}
use Rattle.cns_terms.proofs.Quotients.{fraction_few, quotient_few}
use Rattle.cns_terms.proofs.Waiting.{booked_cents, settled}
use Rattle.cns_terms.proofs.ZeroSums.{IsBalanced, AreBalanced, AreOf, AreSound, positions_zero, against_balanced, both_balanced}
use Rattle.cns_terms.proofs.Everywhere.{each_both, each_in_order, each_weaker}
use Rattle.cns_terms.proofs.Limits.{AreWithin, IsNear, cents_of, money_few, near, ready, waiting_cents, within-post}
use Rattle.cns_terms.proofs.Magnitudes.{added, added-append, added-each, added-filter, added-map, magnitude, total_small}
use Rattle.cns_terms.proofs.Rising.{from_one, is_rising}
use Rattle.cns_terms.proofs.Sound.{NoneHolds, all_fail, AreKnown, IsPlace, IsWhole, whole-post}

-- what trades book
trades_balanced : (ps : List Pend) → IsBalanced (flat_map trade_entries ps)
trades_balanced [] = grind arith
trades_balanced (p ∷ ps) = grind (arith, trades_balanced ps)

-- the entries of an activity in its ranges that is not refused add up to zero in each issue
pub entries_balanced : (opening : Day) (J : Journal) (x : Activity) → IsInRange x → NoneHolds (rules opening J x) → IsBalanced (entries opening J x)
entries_balanced opening J (Activity.Split s) r h = against_balanced s.issue (split_entry s (λ a. position J a s.issue)) _ (λ a. refl)
entries_balanced opening J (Activity.Exchange x) r h =
    both_balanced _ _ (against_balanced x.old (old_entry x (λ a. position J a x.old)) _ (λ a. refl)) (against_balanced x.successor (new_entry x (λ a. position J a x.old)) _ (λ a. refl))
entries_balanced opening J (Activity.Execute x) r h = grind (arith, execution_balanced)
entries_balanced opening J (Activity.Close d) r h = trades_balanced (due opening J d)
entries_balanced opening J _ r h = grind (arith, nat_tests)

-- the members' numbers are within their limit
abbrev pub AreNumbered : Journal → Type 0
AreNumbered J = AllByRecursion (λ a. a ≤ member_limit) (filter_map member_added (activities J))

-- the rates of the dividends are within their limit
abbrev pub AreSmallRates : List Declared → Type 0
AreSmallRates ds = AllByRecursion (λ d. d.rate ≤ rate_limit) ds

-- a journal that commands reach is sound and balanced, and members' numbers, their positions, cents and rates are within their limits
pub record IsLimited (opening : Day) (J : Journal) : Type 0 where
  pub whole : IsWhole opening J
  pub balanced : AreBalanced J
  pub numbered : AreNumbered J
  pub within : AreWithin opening J
  pub cents : (a : Account) (c : Cusip) → unsigned_abs (money J a c) ≤ booking_limit * length J
  pub rates : AreSmallRates (dividends J)
  pub prices : (c : Cusip) → price J c ≤ price_limit
  pub booked : added cents_of J + waiting_cents opening J ≤ booking_limit * length J

-- ---- the corporation's position makes up for the members'

-- numbers that rise from a number up to a limit are no more than fit between
few_rising : (a n : ℕ) (bs : List ℕ) → a ≤ n → is_rising nat_cmp (a ∷ bs) ≡ true → AllByRecursion (λ b. b ≤ n) bs → a + length bs ≤ n
few_rising a n [] h rise most = omega (arith, h)
few_rising a n (b ∷ bs) h rise most = grind (arith, nat_tests, few_rising b n bs)

-- members' numbers are 1 at least
pub members_from_one : (opening : Day) (J : Journal) → IsLimited opening J → AllByRecursion (λ a. 1 ≤ a) (members J)
members_from_one opening J l = from_one (members J) (and_left _ _ l.whole.now.accounts_rise)

-- there are no more members than numbers for them
pub members_few : (opening : Day) (J : Journal) → IsLimited opening J → length (members J) ≤ member_limit
members_few opening J l = omega (arith, few_rising 0 member_limit (members J) (omega arith) l.whole.now.accounts_rise (each_in_order (λ a. a ≤ member_limit) account_lt (filter_map member_added (activities J)) l.numbered))

-- a small number for each member, over all of them
pub for_members : (opening : Day) (J : Journal) (f : Account → ℕ) (m : ℕ) → IsLimited opening J → ((a : Account) → 1 ≤ a → f a ≤ m) → added f (members J) ≤ m * member_limit
for_members opening J f m l h = omega (arith, added-each f m (members J) (each_weaker (λ a. 1 ≤ a) (λ a. f a ≤ m) (members J) h (members_from_one opening J l)), mul-le-mul_left m (members_few opening J l))

-- ---- the cents of one more activity

-- the cents in lieu of less than a share
lieu_few : (r : Ratio) (lieu : Price) (q : ℤ) → IsRatio r → lieu ≤ price_limit → unsigned_abs (in_lieu r lieu q) ≤ ratio_limit * price_limit
lieu_few r lieu q ratio h = grind (arith, fraction_few, quotient_few, unsigned_abs-mul)

-- the most cents that a split or an exchange books for a member
abbrev holder_limit : ℕ
holder_limit = ratio_limit * price_limit + position_limit * price_limit

-- those of an exchange
exchange_few : (r : Ratio) (lieu cash : Price) (q : ℤ) → IsRatio r → lieu ≤ price_limit → cash ≤ price_limit → IsNear q → unsigned_abs (in_exchange r lieu cash q) ≤ holder_limit
exchange_few r lieu cash q ratio h k w = omega (arith, ints, lieu_few r lieu q ratio h, unsigned_abs-mul q (pos cash), mul-le-mul w k)

-- the cents of the corporation and of members with an entry each
against_few : (opening : Day) (J : Journal) (c d : Cusip) (g : Account → Entry) (f : ℤ → ℤ) (m : ℕ) → IsLimited opening J → ((a : Account) → (g a).cents ≡ f (position J a d)) → ((q : ℤ) → IsNear q → unsigned_abs (f q) ≤ m)
    → magnitude (λ e. e.cents) (against_corporation c (map g (holders (λ a. position J a d) (members J)))) ≤ 2 * (m * member_limit)
against_few opening J c d g f m l is small =
    let q : Account → ℤ = λ a. position J a d in
    let hs : List Account = holders q (members J) in
    let all = for_members opening J (λ a. unsigned_abs (g a).cents) m l (λ a k. rw (is a) (small (q a) (near (q a) _ _ (l.within a d k)))) in
    let some = added-filter (λ a. unsigned_abs (g a).cents) (λ a. not (int_eq (q a) (pos 0))) (members J) in
    omega (arith, ints, added-map (λ (e : Entry). unsigned_abs e.cents) g hs, total_small (λ (e : Entry). e.cents) (map g hs), all, some)

-- an execution's money is booked twice
execution_few : (J : Journal) (x : Execution) (o : Option Notice) → 1 ≤ x.shares → x.money ≤ money_limit → IfSome o (IsExecutable J x) → magnitude (λ (e : Entry). e.cents) (option_map_or (execution_entries J x) o []) ≤ booking_limit
execution_few J x None some few h = omega arith
execution_few J x (Some k) some few h = omega (arith, few, execution_cents J x k some h)

-- an activity that is not refused books few cents, but those that waited
pub booked_few : (opening : Day) (J : Journal) (x : Activity) → IsInRange x → NoneHolds (rules opening J x) → IsLimited opening J → cents_of (posting opening J x) + waiting_cents opening (posting opening J x ∷ J) ≤ booking_limit + waiting_cents opening J
booked_few opening J (Activity.Split s) r h l =
    omega (arith, against_few opening J s.issue s.issue (split_entry s (λ a. position J a s.issue)) (in_lieu s.ratio s.lieu) holder_limit l (λ a. refl) (λ z w. omega (arith, lieu_few s.ratio s.lieu z r.0 r.1)))
booked_few opening J (Activity.Exchange x) r h l =
    let q : Account → ℤ = λ a. position J a x.old in
    let hs : List Account = holders q (members J) in
    omega (
      arith,
      added-append (λ (e : Entry). unsigned_abs e.cents) (against_corporation x.old (map (old_entry x q) hs)) (against_corporation x.successor (map (new_entry x q) hs)),
      against_few opening J x.old x.old (old_entry x q) (λ z. pos 0) 0 l (λ a. refl) (λ z w. omega arith),
      against_few opening J x.successor x.old (new_entry x q) (in_exchange x.ratio x.lieu x.cash) holder_limit l (λ a. refl) (λ z w. exchange_few x.ratio x.lieu x.cash z r.0 r.1 r.2 w),
    )
booked_few opening J (Activity.Execute x) r h l = omega (arith, execution_few J x (notice_at J x.notice) r.0 r.2 (ready opening J x h))
booked_few opening J (Activity.Close d) r h l = grind (arith, all_fail, booked_cents, settled)
booked_few opening J _ r h l = grind (arith, ints)

-- ---- one more activity

-- each of its postings adds up to zero, and books for its accounts alone
pub sound_journal : (opening : Day) (J : Journal) → IsLimited opening J → AreSound (accounts J) J
sound_journal opening J l =
    let now = l.whole.now in
    let once : (p : Posting) → AreKnown J p.entries → AreOf (accounts J) p.entries = λ p. each_weaker (λ e. IsPlace J e.account e.issue) _ p.entries (λ e k. omega (arith, k.0, now.distinct e.account)) in
    each_both (λ p. IsBalanced p.entries) (λ p. AreOf (accounts J) p.entries) J l.balanced (each_weaker (λ p. AreKnown J p.entries) _ J once now.known)

-- a journal of nothing has its limits
pub limited_nil : {opening : Day} → IsLimited opening []
limited_nil = grind (arith, ints)

-- and so has one that commands reach
pub limited : (opening : Day) (L : List Activity) → IsReached opening L → IsLimited opening (journal opening L)
limited opening [] r = limited_nil
limited opening (x ∷ L) r =
    let J : Journal = journal opening L in
    let J' : Journal = posting opening J x ∷ J in
    let before = limited opening L r.2 in
    let fails = ap is_none r.1 in
    let booked : added cents_of J' + waiting_cents opening J' ≤ booking_limit * length J' = omega (arith, booked_few opening J x r.0 fails before, before.booked) in
    record {
      whole = whole-post opening J x before.whole fails;
      balanced = (entries_balanced opening J x r.0 fails, before.balanced);
      numbered = grind (arith, r.0, before.numbered);
      within = within-post opening J x fails before.whole before.within;
      cents = λ a c. omega (arith, money_few J' a c, booked);
      rates = grind (arith, r.0, before.rates);
      prices = λ c. grind (arith, r.0, before.prices c);
      booked = booked;
    }

-- what holds of each journal that fewer than n activities reach holds of those of its closes
pub each_closing : (opening : Day) (P : Journal → Type 0) (n : ℕ) → ((L : List Activity) → IsReached opening L → length L < n → P (journal opening L)) → (L : List Activity) → IsReached opening L → length L < n → AllByRecursion P (closings (journal opening L))
each_closing opening P n holds [] r few = tt
each_closing opening P n holds (x ∷ L) r few = grind (arith, holds L r.2, each_closing opening P n holds L r.2)

-- its limits hold at each close
pub limited_past : (opening : Day) (L : List Activity) → IsReached opening L → AllByRecursion (IsLimited opening) (closings (journal opening L))
limited_past opening L r = each_closing opening (IsLimited opening) (length L + 1) (λ M s few. limited opening M s) L r (omega arith)

-- positions are within their limits
pub bounded : (opening : Day) (J : Journal) (c : Cusip) → IsLimited opening J → IsBounded opening J c
bounded opening J c l = record {
  members = λ a m. near _ _ _ (l.within a c m);
  waiting = λ a m. l.within a c m;
  corporation = omega (
    arith,
    ints,
    positions_zero (accounts J) c J (sound_journal opening J l),
    total_small (λ a. position J a c) (members J),
    for_members opening J (λ a. unsigned_abs (position J a c)) position_limit l (λ a m. near _ _ _ (l.within a c m)),
  );
}

-- ---- any commands

-- commands in their ranges keep it so
pub reached-from : (S : State) (cmds : List Command) → AllByRecursion IsCommandInRange cmds → IsReached S.opening S.accepted → IsReached S.opening (after S cmds).accepted
reached-from S [] n r = r
reached-from S (cmd ∷ cmds) n r = grind (arith, reached-from (next S cmd) cmds n.1)

-- what commands in their ranges reach
pub reaches : Reaches
reaches opening cmds n = reached-from (opened opening) cmds n tt

-- over activities that commands reach, positions stay within their limits
pub bounds : Bounds
bounds opening L c r = bounded opening (journal opening L) c (limited opening L r)
