-- What accepted commands keep true of the journal.
use Rattle.cns_terms.proofs.Facts.{◌≡◌, ℕ, ◌≤◌, ℤ, Bool, true, false, not, ◌&&◌, ◌==◌, List, [], ◌∷◌, map, is_none, Option, Some, None, flat_map, refl, ◌∙◌, arith, IfSome, int_lt, nat_cmp, Account, Activity, AllByRecursion, Command, Cusip, Day, Entry, Execution, Journal, Notice, Pend, Posting, Rule, State, accounts, after, against_corporation, at_close, closings, corporation, date, day, day_number, entries, execution_entries, fill_entry, fills, first_refusal, holders, is_listed, issues, journal_of, last_close, list_any, members, new_entry, next, notice_at, notices, old_entry, opened, option_map_or, posting, price, slice_cmp, trade_entries, trades, rules, bytes_eq-Decides, later, less_less, nat_cmp_total, nat_eq_test, nat_list_cmp_total, nat_tests, position, same_test, split_entry, is_eq}
use Rattle.std.proofs.lemmas.Bool.{not-false}
use Rattle.cns_terms.proofs.Accounts.{occurs, occurs-put, occurs_found, occurs_missing}
use Rattle.cns_terms.proofs.BuyIns.{each_named, fills_each}
use Rattle.cns_terms.proofs.Everywhere.{any_put, each_append, each_filter, each_first, each_found, each_map, each_reverse, each_stands, each_weaker}
use Rattle.cns_terms.proofs.Rising.{above_put, is_rising, rising_put}

-- a number is one of the accounts
abbrev pub IsIn : Journal → ℕ → Type 0
IsIn J a = 1 ≤ occurs a (accounts J)

-- a place: one of the accounts, in a listed issue
abbrev pub IsPlace : Journal → Account → Cusip → Type 0
IsPlace J a c = IsIn J a × (is_listed J c ≡ true)

-- each entry is at such a place
abbrev pub AreKnown : Journal → List Entry → Type 0
AreKnown J es = AllByRecursion (λ e. IsPlace J e.account e.issue) es

-- a notice is one of the accounts', in a listed issue
abbrev pub IsNoticed : Journal → Notice → Type 0
IsNoticed J n = IsPlace J n.given.member n.given.issue

-- a trade is between two of the accounts, in a listed issue
abbrev pub IsTraded : Journal → Pend → Type 0
IsTraded J p = IsPlace J p.buyer p.issue × IsPlace J p.seller p.issue

-- accounts and issues are distinct and in order, and postings, notices and trades are of them alone
pub record IsSound (J : Journal) : Type 0 where
  pub distinct : (a : ℕ) → occurs a (accounts J) ≤ 1
  pub known : AllByRecursion (λ p. AreKnown J p.entries) J
  pub accounts_rise : is_rising nat_cmp (accounts J) ≡ true
  pub issues_rise : is_rising (slice_cmp nat_cmp) (issues J) ≡ true
  pub unpriced : (c : Cusip) → is_listed J c ≡ false → price J c ≡ 0
  pub noticed : AllByRecursion (IsNoticed J) (notices J)
  pub traded : AllByRecursion (IsTraded J) (trades J)

-- the day that is open is later than each closed day
abbrev pub AreEarlier : Day → Journal → Type 0
AreEarlier opening J = AllByRecursion (λ K. int_lt (day_number (date opening K)) (day_number (date opening J)) ≡ true) (closings J)

-- a journal that is sound, as it was at each close, and whose days follow one another
pub record IsWhole (opening : Day) (J : Journal) : Type 0 where
  pub now : IsSound J
  pub past : AllByRecursion IsSound (closings J)
  pub earlier : AreEarlier opening J

pub sound_nil : IsSound []
sound_nil = grind arith

-- ---- what a command that is not refused has met

abbrev pub NoneHolds : List Rule → Type 0
NoneHolds rs = is_none (first_refusal rs) ≡ true

-- of an activity that is not refused, no rule's condition holds
pub all_fail : (rs : List Rule) → NoneHolds rs → AllByRecursion (λ (r : Rule). r.1 ≡ false) rs
all_fail [] h = tt
all_fail (r ∷ rs) h = grind (arith, all_fail rs)

pub both_hold : (x y : Bool) → not (x && y) ≡ false → (x ≡ true) × (y ≡ true)
both_hold x y h1 = grind arith

-- ---- accounts stay

-- an account stays
pub grown-post : (p : Posting) (J : Journal) (a : ℕ) → occurs a (accounts J) ≤ occurs a (accounts (p ∷ J))
grown-post p J a = grind (arith, occurs-put)

-- those of the closes are there still
pub accounts_grew : (J : Journal) → AllByRecursion (λ K. (a : ℕ) → occurs a (accounts K) ≤ occurs a (accounts J)) (closings J)
accounts_grew [] = tt
accounts_grew (p ∷ J) = grind (arith, each_weaker, grown-post, accounts_grew J)

-- who was a member at a close is one of the accounts
closed_in : (J : Journal) (n a : ℕ) → 1 ≤ occurs a (members (at_close J n)) → IsIn J a
closed_in J n a = each_found (λ K. 1 ≤ occurs a (members K) → IsIn J a) (λ K. day K == n) [] (closings J) (λ h. omega arith) (each_weaker (λ K. (b : ℕ) → occurs b (accounts K) ≤ occurs b (accounts J)) _ (closings J) (λ K grew h. omega (arith, grew a)) (accounts_grew J))

-- ---- the places that activities book at

-- the corporation and members with an entry each, in a listed issue
against_known : (J : Journal) (c : Cusip) (g : Account → Entry) (q : Account → ℤ) → is_listed J c ≡ true → ((a : Account) → IsIn J a → IsPlace J (g a).account (g a).issue) → AreKnown J (against_corporation c (map g (holders q (members J))))
against_known J c g q listed known =
    ((omega arith, listed), each_map (λ e. IsPlace J e.account e.issue) g (holders q (members J)) (each_weaker (IsIn J) (λ a. IsPlace J (g a).account (g a).issue) (holders q (members J)) known (each_filter (IsIn J) _ (members J) (each_weaker (λ a. 1 ≤ occurs a (members J)) (IsIn J) (members J) (λ a p. omega arith) (each_stands (members J))))))

-- and the members of an execution
executed_known : (J : Journal) (x : Execution) (o : Option Notice) → IfSome o (IsNoticed J) → AreKnown J (option_map_or (execution_entries J x) o [])
executed_known J x None h = tt
executed_known J x (Some k) h = (h, each_map (λ e. IsPlace J e.account e.issue) (fill_entry k) (fills J x k) (each_weaker _ (λ f. IsPlace J f.member k.given.issue) (fills J x k) (λ f p. (closed_in J k.given.day f.member p, h.1)) (fills_each J x k)))

-- what holds of the entries of each trade holds of all of them
booked_each : (P : Entry → Type 0) (ps : List Pend) → AllByRecursion (λ p. AllByRecursion P (trade_entries p)) ps → AllByRecursion P (flat_map trade_entries ps)
booked_each P [] h = tt
booked_each P (p ∷ ps) h = grind (arith, booked_each P ps h.1)

entries_known : (opening : Day) (J : Journal) (x : Activity) → IsSound J → NoneHolds (rules opening J x) → AreKnown J (entries opening J x)
entries_known opening J (Activity.Split s) w h = against_known J s.issue (split_entry s (λ a. position J a s.issue)) (λ a. position J a s.issue) (not-false (is_listed J s.issue) (all_fail (rules opening J (Activity.Split s)) h).0) (λ a p. grind (arith, h, p))
entries_known opening J (Activity.Exchange x) s h =
    let both = both_hold (is_listed J x.old) (is_listed J x.successor) (all_fail (rules opening J (Activity.Exchange x)) h).0 in
    let q : Account → ℤ = λ a. position J a x.old in
    each_append (λ e. IsPlace J e.account e.issue) (against_corporation x.old (map (old_entry x q) (holders q (members J)))) (against_corporation x.successor (map (new_entry x q) (holders q (members J))))
    (against_known J x.old (old_entry x q) q both.0 (λ a p. (p, both.0)))
    (against_known J x.successor (new_entry x q) q both.1 (λ a p. (p, both.1)))
entries_known opening J (Activity.Execute x) s h = executed_known J x (notice_at J x.notice) (each_named (IsNoticed J) (λ n. n.number == x.notice) (notices J) s.noticed)
entries_known opening J (Activity.Close d) s h = grind (arith, booked_each, each_weaker, each_reverse, each_filter)
entries_known opening J _ s h = grind (arith, h, occurs_found)

-- ---- one more activity

accounts-post : (opening : Day) (J : Journal) (x : Activity) → IsSound J → NoneHolds (rules opening J x) → is_rising nat_cmp (accounts (posting opening J x ∷ J)) ≡ true
accounts-post opening J (Activity.Member m) s h =
    let same : list_any (λ b. is_eq (nat_cmp m b)) (members J) ≡ list_any (λ b. m == b) (members J) = λ i. list_any (λ b. nat_eq_test m b i) (members J) in
    grind (arith, nat_tests, same, all_fail (rules opening J (Activity.Member m)) h, above_put nat_cmp_total corporation m (members J), rising_put nat_cmp_total m (members J), s.accounts_rise)
accounts-post opening J _ s h = s.accounts_rise

issues-post : (opening : Day) (J : Journal) (x : Activity) → IsSound J → NoneHolds (rules opening J x) → is_rising (slice_cmp nat_cmp) (issues (posting opening J x ∷ J)) ≡ true
issues-post opening J (Activity.Issue l) s h =
    let fails = all_fail (rules opening J (Activity.Issue l)) h in
    rising_put nat_list_cmp_total l.issue (issues J) s.issues_rise ((λ i. list_any (λ d. same_test l.issue d i) (issues J)) ∙ fails.0)
issues-post opening J _ s h = s.issues_rise

-- an issue stays listed
pub listed-post : (opening : Day) (J : Journal) (x : Activity) (c : Cusip) → is_listed J c ≡ true → is_listed (posting opening J x ∷ J) c ≡ true
listed-post opening J x c h1 = grind (arith, any_put)

-- a place stays one
place-post : (opening : Day) (J : Journal) (x : Activity) (a : Account) (c : Cusip) → IsPlace J a c → IsPlace (posting opening J x ∷ J) a c
place-post opening J x a c p = (omega (arith, p.0, grown-post (posting opening J x) J a), listed-post opening J x c p.1)

still_known : (opening : Day) (J : Journal) (x : Activity) (es : List Entry) → AreKnown J es → AreKnown (posting opening J x ∷ J) es
still_known opening J x es h = each_weaker (λ e. IsPlace J e.account e.issue) (λ e. IsPlace (posting opening J x ∷ J) e.account e.issue) es (λ e. place-post opening J x e.account e.issue) h

-- notices stay as they were given
noticed-post : (opening : Day) (J : Journal) (x : Activity) → IsSound J → NoneHolds (rules opening J x) → AllByRecursion (IsNoticed (posting opening J x ∷ J)) (notices (posting opening J x ∷ J))
noticed-post opening J x s h =
    let still = each_weaker (IsNoticed J) (IsNoticed (posting opening J x ∷ J)) (notices J) (λ n. place-post opening J x n.given.member n.given.issue) s.noticed in
    grind (arith, h, each_append, still, occurs_found, place-post)

-- trades stay as they were made
traded-post : (opening : Day) (J : Journal) (x : Activity) → IsSound J → NoneHolds (rules opening J x) → AllByRecursion (IsTraded (posting opening J x ∷ J)) (trades (posting opening J x ∷ J))
traded-post opening J x s h =
    let still = each_weaker (IsTraded J) (IsTraded (posting opening J x ∷ J)) (trades J) (λ p k. (place-post opening J x p.buyer p.issue k.0, place-post opening J x p.seller p.issue k.1)) s.traded in
    grind (arith, h, still, occurs_found, place-post)

earlier-post : (opening : Day) (J : Journal) (x : Activity) → IsWhole opening J → NoneHolds (rules opening J x) → AreEarlier opening (posting opening J x ∷ J)
earlier-post opening J (Activity.Close d) w h =
    let next = later (day_number d) (day_number (date opening J)) (all_fail (rules opening J (Activity.Close d)) h).0 in
    (next, each_weaker _ (λ K. int_lt (day_number (date opening K)) (day_number d) ≡ true) (closings J) (λ K e. less_less (day_number (date opening K)) _ _ e next) w.earlier)
earlier-post opening J _ w h = w.earlier

-- one accepted activity keeps the journal sound
pub whole-post : (opening : Day) (J : Journal) (x : Activity) → IsWhole opening J → NoneHolds (rules opening J x) → IsWhole opening (posting opening J x ∷ J)
whole-post opening J x w h = record {
  now = record {
    distinct = λ a. grind (arith, w, h, occurs_missing, occurs-put);
    known = (
      still_known opening J x (entries opening J x) (entries_known opening J x w.now h),
      each_weaker (λ p. AreKnown J p.entries) (λ p. AreKnown (posting opening J x ∷ J) p.entries) J (λ p. still_known opening J x p.entries) w.now.known,
    );
    accounts_rise = accounts-post opening J x w.now h;
    issues_rise = issues-post opening J x w.now h;
    unpriced = λ c none. grind (arith, w, h, none, any_put, bytes_eq-Decides);
    noticed = noticed-post opening J x w.now h;
    traded = traded-post opening J x w.now h;
  };
  past = grind (arith, w);
  earlier = earlier-post opening J x w h;
}

pub whole-next : (S : State) (cmd : Command) → IsWhole S.opening (journal_of S) → IsWhole S.opening (journal_of (next S cmd))
whole-next S cmd h1 = grind (arith, whole-post)

pub whole_nil : {opening : Day} → IsWhole opening []
whole_nil = grind arith

-- commands leave the opening date
pub opening_stays : (S : State) (cmds : List Command) → (after S cmds).opening ≡ S.opening
opening_stays S [] = refl
opening_stays S (cmd ∷ cmds) = opening_stays (next S cmd) cmds

whole_from : (S : State) (cmds : List Command) → IsWhole S.opening (journal_of S) → IsWhole S.opening (journal_of (after S cmds))
whole_from S [] w = w
whole_from S (cmd ∷ cmds) w = whole_from (next S cmd) cmds (whole-next S cmd w)

-- whatever commands are taken from the opening date on, the journal is sound
pub whole-after : (opening : Day) (cmds : List Command) → IsWhole opening (journal_of (after (opened opening) cmds))
whole-after opening cmds = whole_from (opened opening) cmds whole_nil

-- the journal as the last close found it is sound
pub sound_last : {opening : Day} (J : Journal) → IsWhole opening J → IsSound (last_close J)
sound_last J w = each_first IsSound [] (closings J) sound_nil w.past
