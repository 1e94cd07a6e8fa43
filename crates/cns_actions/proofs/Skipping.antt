-- Members with a position or an age in an issue, account by account: all rows of an account but that in the issue are passed
-- over.
-- For `next_holder` of holder.rt, clause next.
use Rattle.cns_actions.proofs.Common.{◌≡◌, ◌∙◌, sym, ap, refl, ℕ, ◌≤◌, ◌<◌, Bool, true, false, cond, ◌&&◌, ◌==◌, nat_lt, List, [], ◌∷◌, filter, length, Option, Some, None, arith, is_lt, Account, Cusip, Holder, Holding, Key, Rows, and_left, as_T, below_all, cons_option, exact_keys, find, find_below, has_position_or_age, held_above, held_same, held_sorted, holder_at, holders_after, holders_in, holding_at, key_after, is_held, is_left, is_of_next, is_sorted, key_cmp, keys_total, less, nat_tests, zeros, All-head, filter_passes}
use Rattle.cns_positions.proofs.Held.{filter_both}
use lib.Ieee.Bits.{is_true}
use Rattle.std.specs.FinMap.Entries.{find-where_key, is_sorted-where_key}
use Rattle.cns_actions.proofs.ByAccount.{are_above, are_rising, found, above_holders, listed_at, listed_rising, place, rising_holders, same_holders, who}

-- ---- tests and keys

-- no more pass a test that implies another
fewer_pass : {X : Type 0} (t u : X → Bool) (xs : List X) → ((x : X) → t x ≡ true → u x ≡ true) → length (filter t xs) ≤ length (filter u xs)
fewer_pass t u [] h = omega arith
fewer_pass t u (x ∷ xs) h = grind (arith, fewer_pass t u xs h)

-- what is above a key that is not before another is above the other
onward : (r q k : Key) (b : Bool) → is_lt (key_cmp q r) ≡ false → (is_lt (key_cmp q k) && b) ≡ true → (is_lt (key_cmp r k) && b) ≡ true
onward r q k b h e = grind (arith, keys_total.trans r q k, keys_total.antisymm r q, keys_total.congr r q k, keys_total.antisymm q r)

-- keys are in the order of accounts first
account_before : (k q : Key) → k.account < q.account → is_lt (key_cmp k q) ≡ true
account_before k q h1 = grind (arith, nat_tests)

below_later : (k : Key) (rows : Rows) → below_all key_cmp k (filter (λ r. nat_lt k.account r.0.account) rows) ≡ true
below_later k [] = refl
below_later k (r ∷ rows) = grind (arith, nat_tests, account_before, below_later k rows)

-- a key below the first of rows in order is below all
below_first : (k : Key) (r : Key × Holding) (rows : Rows) → is_lt (key_cmp k r.0) ≡ true → below_all key_cmp r.0 rows ≡ true → below_all key_cmp k (r ∷ rows) ≡ true
below_first k r [] l b = grind arith
below_first k r (e ∷ es) l b = grind (arith, less, keys_total.trans k r.0 e.0, below_first k r es l)

-- accounts from that of the next row on are left
from_row : (passed : Option Key) (r k : Key) → key_after passed r ≡ true → is_of_next passed r ≡ true → r.account ≤ k.account → is_left passed k ≡ true
from_row passed r k h1 h2 h3 = grind (arith, nat_tests)

-- one holder more, if there is one
who_cons : (a : ℕ) (b : Bool) (h : Holder) (hs : List Holder) → who a (cons_option (cond b (Some h) None) hs) ≡ cond (b && (h.account == a)) (Some h) (who a hs)
who_cons a b h hs = grind (arith, nat_tests)

module _ (R : Rows) (order : is_sorted key_cmp R ≡ true) where
  abbrev all : Rows
  all = held_above R None

  -- what a test of keys keeps of the rows that aren't zeros is in order, and has what stands at the keys that pass
  kept_sorted : (t : Key → Bool) → is_sorted key_cmp (filter (λ r. t r.0) all) ≡ true
  kept_sorted t = is_true _ (is_sorted-where_key key_cmp t all (as_T _ (held_sorted R order)))

  kept_at : (t : Key → Bool) (k : Key) → holding_at (filter (λ r. t r.0) all) k ≡ cond (t k) (holding_at R k) zeros
  kept_at t k = grind (arith, find-where_key key_cmp t k (λ q e. ap t (sym (exact_keys k q e))) all, held_same R k order)

  -- fewer rows are above a key that is not before one of them
  pub fewer_above : (passed : Option Key) (r : Key × Holding) (q : Key) → held_above R passed ≡ r ∷ held_above R (Some r.0) → is_lt (key_cmp q r.0) ≡ false → length (held_above R (Some q)) < length (held_above R passed)
  fewer_above passed r q e h = rw e (omega (arith, fewer_pass (λ (x : Key × Holding). is_lt (key_cmp q x.0) && is_held x.1) (λ x. is_lt (key_cmp r.0 x.0) && is_held x.1) R (λ x. onward r.0 q x.0 (is_held x.1) h)))

  module _ (c : Cusip) (passed : Option Key) where
    -- the holder of an account among those that are left
    left_at : (a : Account) → who a (holders_after R c passed) ≡ cond (is_left passed (place c a)) (holder_at R a c) None
    left_at a = grind (arith, found has_position_or_age refl c a (filter (λ r. is_left passed r.0) all) (kept_sorted (is_left passed)), kept_at (is_left passed) (place c a))

    left_rising : are_rising (holders_after R c passed) ≡ true
    left_rising = rising_holders has_position_or_age refl c (filter (λ r. is_left passed r.0) all) (kept_sorted (is_left passed))

    -- nothing stands at the place of an account that is left where no row above what is passed is at it
    none_there : (a : Account) → find key_cmp (place c a) (held_above R passed) ≡ None → is_left passed (place c a) ≡ true → holding_at R (place c a) ≡ zeros
    none_there a none left = grind (arith, kept_at (key_after passed) (place c a), filter_both (λ x. key_after passed x.0) (λ x. is_held x.1) R)

    -- where no row is above what is passed, no holder is left
    pub none_left : held_above R passed ≡ [] → holders_after R c passed ≡ []
    none_left next = same_holders (holders_after R c passed) [] left_rising refl (λ a. grind (arith, left_at a, none_there a, next))

  -- at first all are left
  pub all_left : (c : Cusip) → holders_after R c None ≡ holders_in has_position_or_age c all
  all_left c = same_holders (holders_after R c None) (holders_in has_position_or_age c all) (left_rising c None) (listed_rising has_position_or_age refl c R order) (λ a. left_at c None a ∙ sym (listed_at has_position_or_age refl c R order a))

  module _ (c : Cusip) (passed : Option Key) (r : Key × Holding) (q : Key) (same : q.account ≡ r.0.account) where
    -- a row of the account that was passed last changes nothing
    pub same_left : is_of_next passed r.0 ≡ false → holders_after R c passed ≡ holders_after R c (Some q)
    same_left h = let alike : (k : Key) → is_left passed k ≡ is_left (Some q) k = λ k. grind (arith, nat_tests) in λ i. holders_in has_position_or_age c (filter (λ x. alike x.0 i) all)

    -- no account that is left comes before that of the next row
    pub next_left : (rest : Rows) → held_above R passed ≡ r ∷ rest → is_of_next passed r.0 ≡ true → holders_after R c passed ≡ cons_option (holder_at R r.0.account c) (holders_after R c (Some q))
    next_left rest next h =
        let a = r.0.account in
        let above : are_above a (holders_after R c (Some q)) ≡ true = above_holders has_position_or_age refl c (place c a) (filter (λ r. nat_lt q.account r.0.account) all) refl (rw same (below_later (place c a) all)) in
        let row_above : key_after passed r.0 ≡ true = and_left _ _ (All-head (λ (x : Key × Holding). (key_after passed x.0 && is_held x.1) ≡ true) r rest (rw next at (filter_passes (λ x. key_after passed x.0 && is_held x.1) R))) in
        let sorted : is_sorted key_cmp (r ∷ rest) ≡ true = rw (filter_both (λ x. key_after passed x.0) (λ x. is_held x.1) R, next) at (kept_sorted (key_after passed)) in
        let before : (x : Account) → x < a → is_left passed (place c x) ≡ true → holding_at R (place c x) ≡ zeros = λ x lt. none_there c passed x (rw next (find_below keys_total (place c x) (r ∷ rest) (below_first (place c x) r rest (account_before (place c x) r.0 lt) (and_left _ _ sorted)))) in
        same_holders (holders_after R c passed) _ (left_rising c passed) (grind (arith, above, left_rising c (Some q)))
        (λ x. rw (left_at c passed x, who_cons, left_at c (Some q) x) (grind (arith, nat_tests, before x, from_row passed r.0 (place c x) row_above h)))
