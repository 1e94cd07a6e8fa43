-- Whether a split or an exchange takes a member beyond its limits: just where the definitions say so.
-- For `bookings_for` of acting.rt.
use Rattle.cns_actions.proofs.Common.{◌≡◌, ◌∙◌, refl, ℕ, ◌≤◌, ℤ, pos, ◌+ℤ◌, ◌-ℤ◌, neg_ℤ, Bool, true, false, cond, ◌&&◌, ◌||◌, ◌==◌, nat_lt, List, [], ◌∷◌, ◌++◌, map, arith, lt-ltb, Account, Action, AllByRecursion, AreHolders, Cusip, Entry, Holder, IsForAnother, Member, Pend, Rows, against_corporation, bought_in, bytes_refl, converted, corporation, entries_of, entry, has_position, holder_of, holders_of, holding_at, in_exchange, in_lieu, ints, is_beyond, is_sorted, issue_of, key_cmp, list_any, nat_tests, position_at, position_limit, positions_in, same_issue, shares_for, sold_in, takes_beyond, total, total-append, total-map, zero_add, new_entry, old_entry, split_entry}
use Rattle.cns_terms.specs.Refusals.{are_too_large, is_too_large_at}
use Rattle.cns_terms.proofs.Facts.{issues_differ}
use Rattle.std.proofs.lemmas.List.Folds.{list_any-append, list_any_none}
use Rattle.cns_actions.proofs.ByAccount.{each_listed, listed_at, listed_rising, place, total_at, Alike, any_alike, shown}
use Rattle.cns_actions.proofs.BookingSums.{entries_alike, entries_by}

-- tests that agree
any_legs : (t : Entry → Bool) (L : Holder → Entry) (u : Holder → Bool) (hs : List Holder) → AllByRecursion (λ h. t (L h) ≡ u h) hs → list_any t (map L hs) ≡ list_any u hs
any_legs t L u [] h = refl
any_legs t L u (k ∷ hs) h = grind (arith, any_legs t L u hs h.1)

-- nothing is booked for a member with the corporation
corporation_apart : (a : ℕ) (k : Bool) (x r : ℤ) → 1 ≤ a → cond ((corporation == a) && k) x (pos 0) +ℤ r ≡ r
corporation_apart a k x r h1 = grind arith

-- the shares that each member is to get by trades, and those that it is to give, are within its limits
abbrev pub AreFewShares : List Pend → Type 0
AreFewShares ps = (a : Account) (c : Cusip) → 1 ≤ a → (bought_in ps a c ≤ position_limit) × (sold_in ps a c ≤ position_limit)

module _ (R : Rows) (order : is_sorted key_cmp R ≡ true) (ps : List Pend) where
  -- what entries in an issue book for a member that is shown
  leg_shares : (c l d : Cusip) (F G : ℤ → ℤ) (a : Account) → 1 ≤ a → has_position (holding_at R (place c a)) ≡ true → total (shares_for a d) (against_corporation l (map (λ h. entry h.account l (F h.shares) (G h.shares)) (shown R c))) ≡ cond (same_issue l d) (F (position_at R a c)) (pos 0)
  leg_shares c l d F G a le held = grind (arith, nat_tests, corporation_apart, total-map (shares_for a d) (λ h. entry h.account l (F h.shares) (G h.shares)) (shown R c), total_at (λ h. F h.shares) a (same_issue l d) (shown R c) (listed_rising has_position refl c R order), listed_at has_position refl c R order a)

  -- entries with the same sums take the same members beyond their limits
  large_alike : (es fs : List Entry) → Alike es fs → are_too_large (position_at R) ps es ≡ are_too_large (position_at R) ps fs
  large_alike es fs same =
      (λ i. list_any (λ e. nat_lt corporation e.account && is_beyond (same (shares_for e.account e.issue) i +ℤ position_at R e.account e.issue) (bought_in ps e.account e.issue) (sold_in ps e.account e.issue)) es)
      ∙ any_alike (is_too_large_at (position_at R) ps fs) es fs same

  -- tests of entries for the members that are shown
  any_shown : (c : Cusip) (t : Entry → Bool) (L : Account → ℤ → Entry) (u : Holder → Bool) → ((a : Account) → 1 ≤ a → has_position (holding_at R (place c a)) ≡ true → t (L a (position_at R a c)) ≡ u (holder_of (place c a, holding_at R (place c a))))
      → list_any t (map (λ h. L h.account h.shares) (shown R c)) ≡ list_any u (shown R c)
  any_shown c t L u same = any_legs t (λ h. L h.account h.shares) u (shown R c) (each_listed has_position refl c R order (λ h. t (L h.account h.shares) ≡ u h) same)

  large_by : AreFewShares ps → (x : Action) → IsForAnother x → are_too_large (position_at R) ps (entries_by x (holders_of x R)) ≡ list_any (takes_beyond R ps x) (holders_of x R)
  large_by few (Action.Split s) another =
      any_shown s.issue (is_too_large_at (position_at R) ps (entries_by (Action.Split s) (shown R s.issue))) (λ a n. split_entry s (λ _. n) a) (takes_beyond R ps (Action.Split s)) (λ a le held. grind (arith, ints, lt-ltb corporation a le, bytes_refl, leg_shares s.issue s.issue s.issue (λ n. converted s.ratio n -ℤ n) (in_lieu s.ratio s.lieu) a le held))
  large_by few (Action.Exchange x) another =
      let hs = shown R x.old in
      let olds = against_corporation x.old (map (λ h. old_entry x (λ _. h.shares) h.account) hs) in
      let news = against_corporation x.successor (map (λ h. new_entry x (λ _. h.shares) h.account) hs) in
      let t = is_too_large_at (position_at R) ps (olds ++ news) in
      let sums = λ (d : Cusip) (a : Account) (le : 1 ≤ a) (held : has_position (holding_at R (place x.old a)) ≡ true).
      total-append (shares_for a d) olds news ∙ (λ i. leg_shares x.old x.old d neg_ℤ (λ n. pos 0) a le held i +ℤ leg_shares x.old x.successor d (converted x.ratio) (in_exchange x.ratio x.lieu x.cash) a le held i) in
      list_any-append t olds news
      ∙ (λ i. (any_shown x.old t (λ a n. old_entry x (λ _. n) a) (λ h. false) (λ a le held. rw (sums x.old a le held, bytes_refl x.old, issues_differ x.old x.successor another) (let none : (neg_ℤ (position_at R a x.old) +ℤ pos 0) +ℤ position_at R a x.old ≡ pos 0 = omega (arith, ints) in rw none (grind (arith, few a x.old le)))) ∙ list_any_none (λ h. false) hs (λ k d lt. refl)) i
      || any_shown x.old t (λ a n. new_entry x (λ _. n) a) (takes_beyond R ps (Action.Exchange x)) (λ a le held. rw (sums x.successor a le held, another, bytes_refl x.successor, zero_add, lt-ltb corporation a le) refl) i)

  -- what is looked for is what the definitions refuse
  pub same_large : AreFewShares ps → (x : Action) → IsForAnother x → (ms : List Member) → AreHolders (positions_in R (issue_of x)) ms → are_too_large (position_at R) ps (entries_of x (positions_in R (issue_of x)) ms) ≡ list_any (takes_beyond R ps x) (holders_of x R)
  same_large few x another ms are = large_alike (entries_of x (positions_in R (issue_of x)) ms) (entries_by x (holders_of x R)) (entries_alike R order x ms are) ∙ large_by few x another
