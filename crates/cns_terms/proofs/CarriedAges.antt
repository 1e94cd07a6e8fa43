-- Ages over an exchange: what it brings into the successor, and that it brings nothing anywhere else.
use Rattle.cns_terms.proofs.Common.{◌≡◌, ap, refl, ℕ, zero, suc, ◌≤◌, max, Bool, true, false, cond, List, [], ◌∷◌, ◌++◌, filter, length, None, arith, is_none, flat_map, ⊤, Account, Activity, Cusip, Day, IsReached, Journal, Posting, all_fail, closes, closings, exchanged, greatest, is_close, is_retired, journal, list_any, oldest, same_issue, Exchange, age, carried, closes_short, exchanges_today, forerunners, forerunners_today, rules, issues_differ}

-- ---- the greatest

-- of two lists together
pub greatest-append : {X : Type 0} (f : X → ℕ) (xs ys : List X) → greatest f (xs ++ ys) ≡ max (greatest f xs) (greatest f ys)
greatest-append f [] ys = omega arith
greatest-append f (x ∷ xs) ys = let rest = greatest-append f xs ys in omega (arith, rest)

-- no more than what none is above
pub greatest_le : {X : Type 0} (f : X → ℕ) (n : ℕ) → ((x : X) → f x ≤ n) → (xs : List X) → greatest f xs ≤ n
greatest_le f n h [] = omega arith
greatest_le f n h (x ∷ xs) = omega (arith, greatest_le f n h xs, h x)

-- no short is older than there were closes
pub closes_short_le : (Ks : List Journal) (a : Account) (c : Cusip) → closes_short Ks a c ≤ length Ks
closes_short_le [] a c = omega arith
closes_short_le (K ∷ Ks) a c = grind (arith, greatest_le (closes_short Ks a) (length Ks) (λ d. closes_short_le Ks a d) (c ∷ forerunners_today K c))

-- and so with what exchanges brought
pub oldest_le : (J : Journal) (a : Account) (c : Cusip) → oldest J a c ≤ closes J
oldest_le J a c = greatest_le (age J a) (closes J) (λ d. closes_short_le (closings J) a d) (c ∷ forerunners_today J c)

-- ---- one exchange more

-- no issue is turned into an issue that was exchanged: the successor of the newest is not among the old issues
abbrev IsFresh : Exchange → List Exchange → Type 0
IsFresh x xs = list_any (λ y. same_issue y.old x.successor) (x ∷ xs) ≡ false

-- and so with each before it
abbrev pub AreFresh : List Exchange → Type 0
AreFresh [] = ⊤
AreFresh (x ∷ xs) = IsFresh x xs × AreFresh xs

-- the issues behind some exchanges, where those behind each old issue are the same
each_behind : (F G : Cusip → List Cusip) (s : Cusip) (t : Exchange → Bool) → ((d : Cusip) → same_issue s d ≡ false → F d ≡ G d)
    → (ys : List Exchange) → list_any (λ y. same_issue y.old s) ys ≡ false → flat_map (λ y. y.old ∷ F y.old) (filter t ys) ≡ flat_map (λ y. y.old ∷ G y.old) (filter t ys)
each_behind F G s t same [] none = refl
each_behind F G s t same (y ∷ ys) none = grind (arith, issues_differ y.old s, same y.old, each_behind F G s t same ys)

module _ (x : Exchange) (xs : List Exchange) (fresh : IsFresh x xs) where
  -- it turns nothing into an issue that is not its successor
  behind_other : (n : ℕ) (d : Cusip) → same_issue x.successor d ≡ false → forerunners n (x ∷ xs) d ≡ forerunners n xs d
  behind_other zero d other = refl
  behind_other (suc n) d other = grind (arith, fresh, each_behind (forerunners n (x ∷ xs)) (forerunners n xs) x.successor (λ y. same_issue y.successor d) (behind_other n) xs)

  -- into the successor it turns its old issue, and what had been turned into that
  behind_successor : (n : ℕ) (d : Cusip) → same_issue x.successor d ≡ true → forerunners (suc n) (x ∷ xs) d ≡ x.old ∷ forerunners n xs x.old ++ forerunners (suc n) xs d
  behind_successor n d is = grind (arith, fresh, behind_other n x.old, issues_differ x.old x.successor, each_behind (forerunners n (x ∷ xs)) (forerunners n xs) x.successor (λ y. same_issue y.successor d) (behind_other n) xs)

-- no issue has more exchanges behind it than there are
all_counted : (xs : List Exchange) → AreFresh xs → (n : ℕ) → length xs ≤ n → (d : Cusip) → forerunners (suc n) xs d ≡ forerunners n xs d
all_counted [] fresh zero le d = refl
all_counted [] fresh (suc n) le d = refl
all_counted (x ∷ xs) fresh zero le d = absurd (omega (arith, le))
all_counted (x ∷ xs) fresh (suc n) le d = grind (arith, behind_successor x xs fresh.0 (suc n) d, behind_successor x xs fresh.0 n d, behind_other x xs fresh.0 (suc (suc n)) d, behind_other x xs fresh.0 (suc n) d, all_counted xs fresh.1 n (omega (arith, le)) x.old, all_counted xs fresh.1 (suc n) (omega (arith, le)) d)

-- what one exchange more makes of the greatest at the issues behind one
behind_more : (f : Cusip → ℕ) (x : Exchange) (xs : List Exchange) → AreFresh (x ∷ xs) → (d : Cusip)
    → greatest f (forerunners (suc (length xs)) (x ∷ xs) d) ≡ cond (same_issue x.successor d) (max (greatest f (forerunners (length xs) xs d)) (greatest f (x.old ∷ forerunners (length xs) xs x.old))) (greatest f (forerunners (length xs) xs d))
behind_more f x xs fresh d = grind (arith, behind_successor x xs fresh.0 (length xs) d, behind_other x xs fresh.0 (suc (length xs)) d, greatest-append, all_counted xs fresh.1 (length xs))

-- a posting that closes no day and exchanges no issue
pub carried_same : (p : Posting) (J : Journal) (a : Account) (c : Cusip) → is_close p.activity ≡ false → exchanged p.activity ≡ None → carried (p ∷ J) a c ≡ carried J a c
carried_same p J a c still none = grind arith

-- ---- the exchanges that commands reach

module _ (opening : Day) where
  -- an issue that is not retired is no old issue of the open day
  unexchanged : (L : List Activity) (c : Cusip) → is_retired (journal opening L) c ≡ false → list_any (λ y. same_issue y.old c) (exchanges_today (journal opening L)) ≡ false
  unexchanged [] c h = refl
  unexchanged (x ∷ L) c h = grind (arith, unexchanged L c)

  -- no issue is turned into one that was exchanged
  pub reached_fresh : (L : List Activity) → IsReached opening L → AreFresh (exchanges_today (journal opening L))
  reached_fresh [] r = tt
  reached_fresh (Activity.Exchange x ∷ L) r = grind (arith, all_fail (rules opening (journal opening L) (Activity.Exchange x)) (ap is_none r.1), unexchanged L x.successor, reached_fresh L r.2)
  reached_fresh (x ∷ L) r = grind (arith, reached_fresh L r.2)

  -- an exchange brings the successor the greatest age of the old issue, and no other issue any
  pub carried_on : (L : List Activity) (x : Exchange) → IsReached opening (Activity.Exchange x ∷ L) → (a : Account) (c : Cusip)
      → carried (journal opening (Activity.Exchange x ∷ L)) a c ≡ cond (same_issue x.successor c) (max (carried (journal opening L) a c) (oldest (journal opening L) a x.old)) (carried (journal opening L) a c)
  carried_on L x r a c = behind_more (age (journal opening L) a) x (exchanges_today (journal opening L)) (reached_fresh (Activity.Exchange x ∷ L) r) c
