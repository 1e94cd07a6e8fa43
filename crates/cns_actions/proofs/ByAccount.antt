-- Members of an issue in the order of their accounts: searches among them, and sums over them.
-- For `next_holder` of holder.rt, `sum_of`, `all_bookings` and `bookings_for` of acting.rt.
use Rattle.cns_actions.proofs.Common.{◌≡◌, ◌∙◌, sym, ap, subst, refl, ℕ, ◌≤◌, ℤ, pos, ◌+ℤ◌, Bool, true, false, cond, ◌&&◌, ◌==◌, nat_lt, List, [], ◌∷◌, map, Option, Some, None, arith, nat_cmp, Account, AllByRecursion, Cusip, Holder, Holding, Key, Rows, and_right, below_all, bytes_eq-Decides, corporation, equal, find_below, held_above, held_same, held_sorted, holder_of, holders_in, holding_at, ints, is_sorted, key_cmp, keys_total, nat_cmp_total, nat_list_cmp_total, nat_tests, occurs, option_map_or, same_key, same_lists, tied_itself, total, total-add, total-zero, total-same, zeros, find, greatest, tied_below, not, filter, length, int_eq, AreHolders, Entry, Member, are_distinct, each_weaker, has_position, holders, list_any, occurs_found, occurs_missing, positions_in, total-map}
use Rattle.std.proofs.lemmas.Map.Lookups.{exact_unsigned}
use Rattle.cns_terms.proofs.Accounts.{given_once}
use Rattle.std.proofs.lemmas.Option.{cond_some}

-- ---- lists of them

abbrev pub by_account : List Holder → List (ℕ × Holder)
by_account hs = map (λ h. (h.account, h)) hs

-- the holder of an account
abbrev pub who : ℕ → List Holder → Option Holder
who a hs = find nat_cmp a (by_account hs)

-- whether all are of higher accounts
abbrev pub are_above : ℕ → List Holder → Bool
are_above a hs = below_all nat_cmp a (by_account hs)

-- whether they are in order
abbrev pub are_rising : List Holder → Bool
are_rising hs = is_sorted nat_cmp (by_account hs)

-- all members are above 0
pub above_zero : (hs : List Holder) → AllByRecursion (λ h. 1 ≤ h.account) hs → are_above 0 hs ≡ true
above_zero [] h = refl
above_zero (h ∷ hs) p = grind (arith, nat_tests, above_zero hs p.1)

-- what holds of each that a search finds holds of all
pub each_found : (P : Holder → Type 0) (hs : List Holder) → are_rising hs ≡ true → ((h : Holder) → who h.account hs ≡ Some h → P h) → AllByRecursion P hs
each_found P [] s f = tt
each_found P (h ∷ hs) s f = (f h (grind (arith, nat_tests)), each_found P hs (grind arith) (λ g e. f g (grind (arith, nat_tests, find_below nat_cmp_total h.account (by_account hs)))))

-- rising lists with the same holder of each account are the same
pub same_holders : (hs gs : List Holder) → are_rising hs ≡ true → are_rising gs ≡ true → ((a : ℕ) → who a hs ≡ who a gs) → hs ≡ gs
same_holders hs gs s t h = sym (back hs) ∙ ap (map (λ (e : ℕ × Holder). e.1)) (same_lists nat_cmp_total exact_unsigned (by_account hs) (by_account gs) s t h) ∙ back gs
  where
    back : (hs : List Holder) → map (λ e. e.1) (by_account hs) ≡ hs
    back [] = refl
    back (h ∷ hs) = ap (λ gs. h ∷ gs) (back hs)

-- a sum over those of one account, and the greatest age of them
pub total_at : (g : Holder → ℤ) (a : Account) (k : Bool) (hs : List Holder) → are_rising hs ≡ true
    → total (λ h. cond ((h.account == a) && k) (g h) (pos 0)) hs ≡ cond k (option_map_or g (who a hs) (pos 0)) (pos 0)
total_at g a k [] s = grind arith
total_at g a k (h ∷ hs) s = grind (arith, nat_tests, ints, find_below nat_cmp_total h.account (by_account hs), total_at g a k hs)

pub greatest_at : (a : Account) (k : Bool) (hs : List Holder) → are_rising hs ≡ true
    → greatest (λ h. cond ((h.account == a) && k) h.oldest 0) hs ≡ cond k (option_map_or (λ h. h.oldest) (who a hs) 0) 0
greatest_at a k [] s = grind arith
greatest_at a k (h ∷ hs) s = grind (arith, nat_tests, find_below nat_cmp_total h.account (by_account hs), greatest_at a k hs)

-- a sum over numbers among which each account stands once
pub total_over : (f : Holder → ℤ) (hs : List Holder) (ns : List ℕ) → are_rising hs ≡ true → AllByRecursion (λ h. occurs h.account ns ≡ 1) hs
    → total (λ a. option_map_or f (who a hs) (pos 0)) ns ≡ total f hs
total_over f [] ns s once = total-zero ns
total_over f (h ∷ hs) ns s once =
    total-same _ _ ns (λ a. grind (arith, nat_tests, ints, find_below nat_cmp_total h.account (by_account hs)))
    ∙ total-add (λ a. cond ((h.account == a) && true) (f h) (pos 0)) (λ a. option_map_or f (who a hs) (pos 0)) ns
    ∙ (λ i. given_once h.account true (f h) ns once.0 i +ℤ total_over f hs ns (and_right _ _ s) once.1 i)

-- ---- as rows show them

-- an account's place in an issue
abbrev pub place : Cusip → Account → Key
place c a = record { account = a; issue = c }

module _ (kind : Holding → Bool) (idle : kind zeros ≡ false) (c : Cusip) where
  -- an account as a holder, by what stands at its place
  abbrev pub one : Account → Holding → Option Holder
  one a h = cond (nat_lt corporation a && kind h) (Some (holder_of (place c a, h))) None

  -- the holder of an account is what stands at its place
  pub found : (a : Account) (rows : Rows) → is_sorted key_cmp rows ≡ true → who a (holders_in kind c rows) ≡ one a (holding_at rows (place c a))
  found a [] s = grind arith
  found a (r ∷ rows) s = grind (arith, bytes_eq-Decides, nat_tests, same_key (place c a) r.0, equal, find_below keys_total (place c a) rows, tied_below keys_total (place c a) r.0 rows, found a rows)

  -- holders of rows in order are in order
  pub above_holders : (k : Key) (rows : Rows) → k.issue ≡ c → below_all key_cmp k rows ≡ true → are_above k.account (holders_in kind c rows) ≡ true
  above_holders k [] same b = refl
  above_holders k (r ∷ rows) same b = grind (arith, bytes_eq-Decides, tied_itself nat_list_cmp_total c, above_holders k rows same)

  pub rising_holders : (rows : Rows) → is_sorted key_cmp rows ≡ true → are_rising (holders_in kind c rows) ≡ true
  rising_holders [] s = refl
  rising_holders (r ∷ rows) s = grind (arith, bytes_eq-Decides, above_holders r.0 rows, rising_holders rows)

  module _ (R : Rows) (order : is_sorted key_cmp R ≡ true) where
    abbrev listed : List Holder
    listed = holders_in kind c (held_above R None)

    -- those of positions are in order, and found at the accounts' places
    pub listed_rising : are_rising listed ≡ true
    listed_rising = rising_holders (held_above R None) (held_sorted R order)

    pub listed_at : (a : Account) → who a listed ≡ one a (holding_at R (place c a))
    listed_at a = found a (held_above R None) (held_sorted R order) ∙ ap (one a) (held_same R (place c a) order)

    -- what holds of each member with such a holding at its place
    pub each_listed : (P : Holder → Type 0) → ((a : Account) → 1 ≤ a → kind (holding_at R (place c a)) ≡ true → P (holder_of (place c a, holding_at R (place c a)))) → AllByRecursion P listed
    each_listed P f = each_found P listed listed_rising (λ h e.
        let is = cond_some _ _ h (sym (listed_at h.account) ∙ e) in
        subst P is.1 (f h.account (grind (arith, nat_tests, is.0)) (grind (arith, is.0))))

-- a sum over what a test keeps
kept_total : {X : Type 0} (t : X → Bool) (f g : X → ℤ) (xs : List X) → AllByRecursion (λ x. g x ≡ cond (t x) (f x) (pos 0)) xs → total f (filter t xs) ≡ total g xs
kept_total t f g [] h = refl
kept_total t f g (x ∷ xs) h = grind (arith, ints, kept_total t f g xs)

-- a number stands at most once in a list that names nobody twice
at_most_once : (x : ℕ) (ms : List ℕ) → are_distinct ms ≡ true → occurs x ms ≤ 1
at_most_once x [] h = omega arith
at_most_once x (m ∷ ms) h = grind (arith, nat_tests, occurs_missing m ms, at_most_once x ms)

-- whether any element passes a test, by a sum
any_counted : {X : Type 0} (t : X → Bool) (xs : List X) → (total (λ x. cond (t x) (pos 1) (pos 0)) xs ≡ pos (length (filter t xs))) × (list_any t xs ≡ not (int_eq (pos (length (filter t xs))) (pos 0)))
any_counted t [] = (refl, refl)
any_counted t (x ∷ xs) = grind (arith, ints, nat_tests, any_counted t xs)

-- lists with the same sums of whatever is read of them
abbrev pub Alike : {X : Type 0} → List X → List X → Type 0
Alike {X} xs ys = (f : X → ℤ) → total f xs ≡ total f ys

pub any_alike : {X : Type 0} (t : X → Bool) (xs ys : List X) → Alike xs ys → list_any t xs ≡ list_any t ys
any_alike t xs ys same = grind (arith, any_counted t xs, any_counted t ys, same (λ x. cond (t x) (pos 1) (pos 0)))

abbrev pub shown : Rows → Cusip → List Holder
shown R c = holders_in has_position c (held_above R None)

module _ (R : Rows) (order : is_sorted key_cmp R ≡ true) (c : Cusip) (ms : List Member) (are : AreHolders (positions_in R c) ms) where
  -- whoever has a position is named once
  once : (a : Account) → 1 ≤ a → not (int_eq (positions_in R c a) (pos 0)) ≡ true → occurs a ms ≡ 1
  once a le held = grind (arith, occurs_found a ms, at_most_once a ms are.distinct, are.others a le)

  -- entries for the members that are named are as those for the members that are shown
  pub legs_alike : (L : Account → ℤ → Entry) → Alike (map (λ a. L a (positions_in R c a)) (holders (positions_in R c) ms)) (map (λ h. L h.account h.shares) (shown R c))
  legs_alike L f =
      total-map f (λ a. L a (positions_in R c a)) (holders (positions_in R c) ms)
      ∙ kept_total (λ a. not (int_eq (positions_in R c a) (pos 0))) (λ a. f (L a (positions_in R c a))) (λ a. option_map_or (λ h. f (L h.account h.shares)) (who a (shown R c)) (pos 0)) ms (each_weaker _ _ ms (λ a n. grind (arith, nat_tests, listed_at has_position refl c R order a, n.0)) are.numbers)
      ∙ total_over (λ h. f (L h.account h.shares)) (shown R c) ms (listed_rising has_position refl c R order) (each_listed has_position refl c R order (λ h. occurs h.account ms ≡ 1) once)
      ∙ sym (total-map f (λ h. L h.account h.shares) (shown R c))
