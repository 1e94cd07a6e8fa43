-- Splits and exchanges.
-- For `split` and `exchange` of parts/actions.rt, clauses step and places.
use Rattle.cns_book.proofs.Common.{◌≡◌, ◌∙◌, refl, ◌≤◌, ℤ, true, false, ◌||◌, List, ◌∷◌, map, reverse, Option, None, arith, bytes_eq, IsSome, Ok, Account, Activity, AreHolders, Contents, Cusip, Entry, Follows, FollowsNotices, HasRoom, Holding, IsInRange, Key, Listed, Pend, Rows, account_lt, activity_of, age_brought, and_right, books, bought_in, changed_each, each_both, each_in_order, entries, entries_of, first_refusal, holding_at, is_held_up, is_listed, is_retired, is_too_large, is_too_large_at, issue_of, issue_rules, journal, limited, list_any, member_limit, members, members_from_one, pending, position_limit, positions_in, posting, price_in, refusal, retired_in, sold_in, with_age, max-zero, position, Refusal, carried_on, no_account_elsewhere, no_position, ended, ended_by, Action, exchange_rules, ◌⊎◌, each_weaker, AreElsewhere, Booking, Command, Steps, Reply, CanBeBooked, position_at, waits_for, ap}
use Rattle.cns_terms.specs.Refusals.{are_too_large}
use Rattle.cns_terms.specs.declared.action.Exchange.{Exchange}
use Rattle.cns_terms.specs.declared.action.Split.{Split}
use Rattle.cns_terms.specs.Entries.{exchange_entries, split_entries}
use Rattle.cns_actions.proofs.Members.{rising_distinct}
use Rattle.cns_book.proofs.PendingSteps.{bought-reverse, sold-reverse, waits-reverse}
use Rattle.cns_book.proofs.PartsStaying.{accepted, batches_stay}
use Rattle.cns_book.proofs.PartsWithin.{member_within, rows_within}
use Rattle.cns_actions.specs.Changes.{AreInIssues, new_issue}

-- with room for one activity more, no member is to get or to give more than its limit
pub few_wait : (s : Contents) → HasRoom s → (a : Account) (c : Cusip) → 1 ≤ a → (bought_in s.trades.pending a c ≤ position_limit) × (sold_in s.trades.pending a c ≤ position_limit)
few_wait s r a c le = grind (arith, limited, bought-reverse, sold-reverse)

-- with room for one activity more, positions can be booked
pub can_be_booked : (s : Contents) → HasRoom s → CanBeBooked s.rows
can_be_booked s r = record {
  members = λ a c le. member_within s a c le r;
  corporation = λ c. (rows_within s r).shares (record { account = 0; issue = c });
  cents = λ k. omega (arith, (rows_within s r).cents k);
}

-- ---- the members, and their positions

-- an entry is too large whichever way round the trades that wait stand
same_large : (before : Account → Cusip → ℤ) (ps : List Pend) (es : List Entry) (e : Entry) → is_too_large_at before (reverse ps) es e ≡ is_too_large_at before ps es e
same_large before ps es e = grind (arith, bought-reverse, sold-reverse)

module _ (s : Contents) (L : List Activity) (f : Follows L s) where
  -- a split or an exchange may be too large where it books
  whole : (x : Action) → are_too_large (position (journal s.opening L)) (pending s.opening (journal s.opening L)) (entries s.opening (journal s.opening L) (activity_of x)) ≡ is_too_large s.opening (journal s.opening L) (activity_of x)
  whole x = grind arith

  -- positions are those of the definitions
  same_positions : position_at s.rows ≡ position (journal s.opening L)
  same_positions i a c = (f.rows (record { account = a; issue = c }) i).now

  pub holders_are : (c : Cusip) → AreHolders (positions_in s.rows c) (members (journal s.opening L))
  holders_are c =
      let l = limited s.opening L f.reached in
      record {
        numbers = each_both (λ a. 1 ≤ a) (λ a. a ≤ member_limit) (members (journal s.opening L)) (members_from_one s.opening (journal s.opening L) l) (each_in_order (λ a. a ≤ member_limit) account_lt _ l.numbered);
        distinct = rising_distinct (members (journal s.opening L)) (and_right _ _ l.whole.now.accounts_rise);
        others = λ a h none. ap (λ (q : Account → Cusip → ℤ). q a c) same_positions ∙ no_position a c (journal s.opening L) (no_account_elsewhere (journal s.opening L) a c l.whole.now (grind arith));
      }

  -- so are the entries
  pub entries_are : (x : Action) → entries_of x (positions_in s.rows (issue_of x)) (members (journal s.opening L)) ≡ entries s.opening (journal s.opening L) (activity_of x)
  entries_are (Action.Split p) = λ i. split_entries p (λ a. same_positions i a p.issue) (members (journal s.opening L))
  entries_are (Action.Exchange x) = λ i. exchange_entries x (λ a. same_positions i a x.old) (members (journal s.opening L))

  -- and whether they are too large
  pub size_is : (x : Action) (ps : List Pend) → ps ≡ s.trades.pending → are_too_large (position_at s.rows) ps (entries_of x (positions_in s.rows (issue_of x)) (members (journal s.opening L))) ≡ is_too_large s.opening (journal s.opening L) (activity_of x)
  size_is x ps are =
      (λ i. are_too_large (same_positions i) ((are ∙ f.pending) i) (entries_are x i))
      ∙ (λ i. list_any (λ e. same_large (position (journal s.opening L)) (pending s.opening (journal s.opening L)) (entries s.opening (journal s.opening L) (activity_of x)) e i) (entries s.opening (journal s.opening L) (activity_of x)))
      ∙ whole x

  -- and whether trades that wait hold an exchange up
  pub held_up_is : (x : Action) (ps : List Pend) → ps ≡ s.trades.pending → waits_for x ps ≡ is_held_up s.opening (journal s.opening L) x
  held_up_is x ps h1 = grind (arith, waits-reverse)

-- a split is not refused where its issue's rules don't refuse it and it is not too large
pub split_unrefused : (L : List Activity) (s : Contents) (x : Split) (r : Option Refusal) → r ≡ first_refusal (issue_rules (is_listed (journal s.opening L) x.issue) (is_retired (journal s.opening L) x.issue)) → r ≡ None → (is_too_large s.opening (journal s.opening L) (Activity.Split x) ≡ true → ⊥) → refusal s.opening (journal s.opening L) (Command.Activity (Activity.Split x)) ≡ None
split_unrefused L s x r said is size = grind arith

-- an issue that the rules let be exchanged is listed, and is not retired
pub exchange_current : (L : List Activity) (s : Contents) (x : Exchange) (o : Option Refusal) → Follows L s → o ≡ first_refusal (exchange_rules (journal s.opening L) x) → o ≡ None → IsSome (price_in s.prices x.old) × (retired_in s.prices x.old ≡ false)
exchange_current L s x o f said is = grind (arith, f.listings.prices x.old, f.listings.retired x.old)

-- and so an exchange, where no trades hold it up
pub exchange_unrefused : (L : List Activity) (s : Contents) (x : Exchange) (r : Option Refusal) → r ≡ first_refusal (exchange_rules (journal s.opening L) x) → r ≡ None → (is_too_large s.opening (journal s.opening L) (Activity.Exchange x) ≡ true → ⊥) → ((is_too_large s.opening (journal s.opening L) (Activity.Exchange x) ≡ false) × (is_held_up s.opening (journal s.opening L) (Action.Exchange x) ≡ true) → ⊥) → refusal s.opening (journal s.opening L) (Command.Activity (Activity.Exchange x)) ≡ None
exchange_unrefused L s x r said is size waits = grind arith

-- ---- what stands after a split or an exchange

-- no age is brought by a split
pub with_no_age : (h : Holding) → with_age 0 h ≡ h
with_no_age h = λ i. record h { carried = max-zero h.carried i }

-- an exchange that is not refused
pub exchange_follows : (L : List Activity) (s : Contents) (x : Exchange) (prices : Listed) (rows : Rows) → Follows L s → IsInRange (Activity.Exchange x) → refusal s.opening (journal s.opening L) (Command.Activity (Activity.Exchange x)) ≡ None
    → ((c : Cusip) → price_in prices c ≡ price_in s.prices c) → ((c : Cusip) → retired_in prices c ≡ (bytes_eq x.old c || retired_in s.prices c))
    → ((k : Key) → holding_at rows k ≡ with_age (age_brought s.rows (Action.Exchange x) k) (books (entries s.opening (journal s.opening L) (Activity.Exchange x)) k (holding_at s.rows k)))
    → Steps L (Command.Activity (Activity.Exchange x)) (Ok Reply.Accepted) (record s { prices = prices; rows = rows; notices = map (ended x.old) s.notices })
exchange_follows L s x prices rows f range none p r b =
    let J = journal s.opening L in
    accepted L (Activity.Exchange x) Reply.Accepted none refl (grind (arith, f, carried_on s.opening L x (range, none, f.reached), b, changed_each J (posting s.opening J (Activity.Exchange x)) (ended x.old) (λ k y. ended_by x.old y), batches_stay s J (Activity.Exchange x) refl refl f.batches))

-- the notices after a split
pub split_ends : {s : Contents} (L : List Activity) (x : Split) → Follows L s → FollowsNotices (journal s.opening (Activity.Split x ∷ L)) (record s { notices = map (ended x.issue) s.notices })
split_ends {s} L x f = grind (arith, changed_each, ended_by)

-- at a key outside its issues none is booked
pub elsewhere : (x : Action) (k : Key) (bs : List Booking) → ¬ ((k.issue ≡ issue_of x) ⊎ (k.issue ≡ new_issue x)) → AreInIssues x bs → AreElsewhere k bs
elsewhere x k bs apart within = grind (arith, each_weaker)
