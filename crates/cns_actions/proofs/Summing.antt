-- Sums over the members with a position, as far as they were added up.
-- For `sum_of` of acting.rt.
use Rattle.cns_actions.proofs.Common.{nat_tests, ◌≡◌, ◌∙◌, ap, subst, refl, ℕ, ◌≤◌, ◌<◌, pos, ◌+ℤ◌, Bool, true, false, not, ◌||◌, unsigned_abs, List, ◌∷◌, arith, int_eq, Action, AllByRecursion, CanBeBooked, Change, Cusip, Holder, IsFew, Rows, and_left, and_right, change_of, has_position, holders_of, ints, is_sorted, issue_of, key_cmp, list_any, member_limit, position_at, position_limit, sum_of, with_position, +ℤ_assoc}
use Rattle.cns_actions.proofs.ByAccount.{above_zero, are_above, are_rising, each_listed, listed_rising}

-- two changes together
abbrev pub plus : Change → Change → Change
plus c d = record { before = c.before +ℤ d.before; after = c.after +ℤ d.after; cents = c.cents +ℤ d.cents }

-- the sum over the members up to a number, and those above it that are left: both together sum up to what all do, and any of all
-- passes a test where one of those that are left does
pub record AddsUp (x : Action) (t : Holder → Bool) (all : List Holder) (sum : Change) (left : List Holder) : Type 0 where
  pub last : ℕ
  pub most : last ≤ member_limit
  pub few : IsFew last sum
  pub above : are_above last left ≡ true
  pub rising : are_rising left ≡ true
  pub within : AllByRecursion (λ h. unsigned_abs h.shares ≤ position_limit) left
  pub sums : sum_of x all ≡ plus sum (sum_of x left)
  pub fits : list_any t all ≡ list_any t left

-- at first all are left
pub first_adds : (R : Rows) → is_sorted key_cmp R ≡ true → CanBeBooked R → (x : Action) (t : Holder → Bool) → AddsUp x t (holders_of x R) (record { before = pos 0; after = pos 0; cents = pos 0 }) (holders_of x R)
first_adds R order can x t = grind (arith, ints, above_zero (holders_of x R) (each_listed has_position refl (issue_of x) R order (λ h. 1 ≤ h.account) (λ a le held. le)), listed_rising has_position refl (issue_of x) R order, each_listed has_position refl (issue_of x) R order (λ h. unsigned_abs h.shares ≤ position_limit) (λ a le held. can.members a (issue_of x) le))

module _ {x : Action} {t : Holder → Bool} {all : List Holder} {sum : Change} {left : List Holder} (h : Holder) {rest : List Holder} (first : left ≡ h ∷ rest) (held : not (int_eq h.shares (pos 0)) ≡ true) (was : AddsUp x t all sum (with_position left)) where
  -- the next member with a position is the next of those
  now : AddsUp x t all sum (h ∷ with_position rest)
  now = subst (AddsUp x t all sum) (rw (first, held) refl) was

  -- it is above those before it
  next_above : now.last < h.account
  next_above = grind (arith, nat_tests, now.above)

  -- so its positions are within their limits
  pub next_within : (R : Rows) → CanBeBooked R → (c : Cusip) → unsigned_abs (position_at R h.account c) ≤ position_limit
  next_within R can c = can.members h.account c (omega (arith, next_above))

  -- where it passes the test, one of all does
  pub next_passes : t h ≡ true → list_any t all ≡ true
  next_passes e = grind (arith, now.fits)

  -- else it is added
  pub next_adds : (new d : Change) → h.account ≤ member_limit → d ≡ change_of x h.shares → IsFew 1 d → new ≡ plus sum d → t h ≡ false → AddsUp x t all new (with_position rest)
  next_adds new d most same few is fails =
      let near : IsFew h.account (plus sum d) = record { before = omega (arith, ints, next_above, now.few.before, few.before); after = omega (arith, ints, next_above, now.few.after, few.after); cents = omega (arith, ints, next_above, now.few.cents, few.cents) } in
      rw is (record { last = h.account; most = most; few = near; above = and_left _ _ now.rising; rising = and_right _ _ now.rising; within = now.within.1; sums = rw (now.sums, same) (simp +ℤ_assoc); fits = now.fits ∙ ap (λ b. b || list_any t (with_position rest)) fails })
