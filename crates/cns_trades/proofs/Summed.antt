-- Sums of sides by key.
-- For `take`, `add` and `open` of sides.rt, `waits_in` of pending.rt and others.
use Rattle.cns_trades.proofs.Common.{◌≡◌, ap, ℕ, ◌+◌, ◌≤◌, Bool, true, false, cond, Option, Some, None, unwrap_or, ◌*◌, List, ◌++◌, append-nil, drop, take, filter, length, arith, take_all, is_eq, AllByRecursion, added-each, drop_all, each_weaker, equal, exact_keys, key_cmp, lookup, same_key, shares_limit, Key, Pend, Sides, SidesByKey, bought_key, has_sides, less, more, no_sides, sides_at, sides_by, sides_of, sold_key}
use Rattle.cns_terms.proofs.Waiting.{bought_added, sold_added}

-- what stands at a key, if anything
abbrev pub found : SidesByKey → Key → Option Sides
found es k = lookup (λ q. is_eq (key_cmp k q)) es

-- the second is the first with something else at one key, or nothing
abbrev pub Puts : SidesByKey → SidesByKey → Key → Option Sides → Type 0
Puts old new key o = (q : Key) → found new q ≡ cond (is_eq (key_cmp key q)) o (found old q)

-- keys that compare alike have the same
same_there : (es : SidesByKey) (key k : Key) → is_eq (key_cmp key k) ≡ true → sides_at es key ≡ sides_at es k
same_there es key k e = ap (sides_at es) (exact_keys key k (equal _ e))

-- sums that are the same on both sides
sides_same : (s t : Sides) → s.bought ≡ t.bought → s.sold ≡ t.sold → s ≡ t
sides_same s t p q = λ i. record { bought = p i; sold = q i }

-- what f makes of the sums at one key
pub put_at : (f : Sides → Sides) (old new : SidesByKey) (key : Key) (o : Option Sides) → Puts old new key o → unwrap_or o no_sides ≡ f (sides_at old key) → (k : Key) → sides_at new k ≡ cond (is_eq (key_cmp key k)) (f (sides_at old k)) (sides_at old k)
put_at f old new key o h is k = grind (arith, same_there)

-- no sums at a key: there is nothing to take
pub none_taken : (es : SidesByKey) (key : Key) (d : Sides) → found es key ≡ None → d.bought ≤ (sides_at es key).bought → d.sold ≤ (sides_at es key).sold → (k : Key) → sides_at es k ≡ cond (is_eq (key_cmp key k)) (less (sides_at es k) d) (sides_at es k)
none_taken es key d none b s k = grind (arith, same_there es key k, sides_same)

-- what is found at a key stands there
pub at_found : (es : SidesByKey) (k : Key) (s : Sides) → found es k ≡ Some s → sides_at es k ≡ s
at_found es k s h = ap (λ o. unwrap_or o no_sides) h

-- where nothing is put in the place of nothing, all sums stay
pub opened_at : (old new : SidesByKey) (key : Key) → Puts old new key (Some no_sides) → has_sides old key ≡ false → (k : Key) → sides_at new k ≡ sides_at old k
opened_at old new key h none k = grind (arith, h k, same_there old key k)

-- there is room where there was, and where something is put
pub has_put : (old new : SidesByKey) (key : Key) (s : Sides) → Puts old new key (Some s) → (k : Key) → has_sides old k ≡ true → has_sides new k ≡ true
has_put old new key s h k is = grind arith

-- sums less themselves
pub less_itself : (s : Sides) → less s s ≡ no_sides
less_itself s = sides_same _ _ (omega arith) (omega arith)

-- ---- what trades add up to

-- what is done at the buyer's key and then at the seller's, in the words of the definitions
module _ (p : Pend) (before between after : Key → Sides) (one two : Key) (b s : Sides) (at_one : one ≡ bought_key p) (brings : b ≡ record { bought = p.shares; sold = 0 }) (at_two : two ≡ sold_key p) (takes : s ≡ record { bought = 0; sold = p.shares }) where
  pub added_both : ((k : Key) → between k ≡ cond (is_eq (key_cmp one k)) (more (before k) b) (before k)) → ((k : Key) → after k ≡ cond (is_eq (key_cmp two k)) (more (between k) s) (between k)) → (k : Key) → after k ≡ more (sides_by p k) (before k)
  added_both first second k = grind (arith, sides_same, first k, second k, same_key one k, same_key two k)

  pub taken : ((k : Key) → between k ≡ cond (is_eq (key_cmp one k)) (less (before k) b) (before k)) → ((k : Key) → after k ≡ cond (is_eq (key_cmp two k)) (less (between k) s) (between k)) → (k : Key) → after k ≡ less (before k) (sides_by p k)
  taken first second k = grind (arith, sides_same, first k, second k, same_key one k, same_key two k)

-- the trades' sums are as small as their number allows
pub few_sides : (ps : List Pend) (k : Key) → AllByRecursion (λ (p : Pend). p.shares ≤ shares_limit) ps → ((sides_of ps k).bought ≤ shares_limit * length ps) × ((sides_of ps k).sold ≤ shares_limit * length ps)
few_sides ps k small = grind (arith, added-each, each_weaker, bought_added, sold_added)

-- in the end those are kept whose date is to come
pub all_kept : (t : Pend → Bool) (ps : List Pend) (i : ℕ) → length ps ≤ i → filter t (take i ps) ++ drop i ps ≡ filter t ps
all_kept t ps i le = rw (take_all i ps le, drop_all i ps le) (append-nil (filter t ps))
