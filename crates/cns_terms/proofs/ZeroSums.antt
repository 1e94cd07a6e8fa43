-- Entries that add up to zero in each issue, and so positions, cents and marks of all accounts do.
use Rattle.cns_terms.proofs.Facts.{◌≡◌, ℕ, ℤ, pos, ◌+ℤ◌, ◌-ℤ◌, ◌*ℤ◌, neg_ℤ, suc, zero, List, [], ◌∷◌, refl, sym, ◌∙◌, ap, arith, ◌&&◌, ◌==◌, false, Bool, cond, ◌++◌, map, Account, AllByRecursion, Cusip, Entry, Journal, Posting, cents_for, last_close, mark, money, open_day, price, same_issue, total, against_corporation, zero-*ℤ, *ℤ_comm, suc_ℤ-*ℤ, *ℤ-zero, value, ints, position}
use Rattle.cns_terms.proofs.Magnitudes.{total-zero, total-add, total-neg, total-swap, total-append}
use Rattle.cns_terms.proofs.Accounts.{occurs, given_once}

-- whether an entry is booked at a place
abbrev pub is_at : Account → Cusip → Entry → Bool
is_at a c e = (e.account == a) && same_issue e.issue c

-- a number of an entry, if it is booked there
abbrev pub at_place : (Entry → ℤ) → Account → Cusip → Entry → ℤ
at_place f a c e = cond (is_at a c e) (f e) (pos 0)

-- entries elsewhere book nothing there
pub none_at : (f : Entry → ℤ) (a : Account) (c : Cusip) (es : List Entry) → AllByRecursion (λ e. is_at a c e ≡ false) es → total (at_place f a c) es ≡ pos 0
none_at f a c [] h = refl
none_at f a c (e ∷ es) h = grind (arith, none_at f a c es)

-- a number of an entry, if it is of the issue
abbrev pub in_issue : (Entry → ℤ) → Cusip → Entry → ℤ
in_issue f c e = cond (same_issue e.issue c) (f e) (pos 0)

-- what is booked in each issue adds up to zero
pub record IsBalanced (es : List Entry) : Type 0 where
  pub shares : (c : Cusip) → total (in_issue (λ e. e.shares) c) es ≡ pos 0
  pub cents : (c : Cusip) → total (in_issue (λ e. e.cents) c) es ≡ pos 0

-- entries of one issue, all of them or none
all_in : {X : Type 0} (f : Entry → ℤ) (c d : Cusip) (g : X → Entry) (xs : List X) → ((x : X) → (g x).issue ≡ c) → total (in_issue f d) (map g xs) ≡ cond (same_issue c d) (total f (map g xs)) (pos 0)
all_in f c d g [] is = grind arith
all_in f c d g (x ∷ xs) is = grind (arith, is x, all_in f c d g xs is)

-- entries of one issue that add up to zero
pub balanced_in : {X : Type 0} (e : Entry) (g : X → Entry) (xs : List X) → ((x : X) → (g x).issue ≡ e.issue) → total (λ e. e.shares) (e ∷ map g xs) ≡ pos 0 → total (λ e. e.cents) (e ∷ map g xs) ≡ pos 0 → IsBalanced (e ∷ map g xs)
balanced_in e g xs is none_shares none_cents = record {
  shares = λ d. grind (arith, all_in (λ e. e.shares) e.issue d g xs is, none_shares);
  cents = λ d. grind (arith, all_in (λ e. e.cents) e.issue d g xs is, none_cents);
}

-- what the corporation stands against adds up to zero
pub against_balanced : (c : Cusip) (g : Account → Entry) (xs : List Account) → ((a : Account) → (g a).issue ≡ c) → IsBalanced (against_corporation c (map g xs))
against_balanced c g xs is = balanced_in _ g xs is (omega (arith, ints)) (omega (arith, ints))

-- two lists that add up to zero
pub both_balanced : (es fs : List Entry) → IsBalanced es → IsBalanced fs → IsBalanced (es ++ fs)
both_balanced es fs h1 h2 = grind (arith, total-append)

-- each entry is of one of the accounts
abbrev pub AreOf : List Account → List Entry → Type 0
AreOf bs es = AllByRecursion (λ e. occurs e.account bs ≡ 1) es

-- each posting adds up to zero in each issue, and books for those accounts alone
abbrev pub AreSound : List Account → Journal → Type 0
AreSound bs J = AllByRecursion (λ p. IsBalanced p.entries × AreOf bs p.entries) J

-- each posting adds up to zero
abbrev pub AreBalanced : Journal → Type 0
AreBalanced J = AllByRecursion (λ p. IsBalanced p.entries) J

-- what entries book for all of the accounts is what they book
of_all : (f : Entry → ℤ) (bs : List Account) (c : Cusip) (es : List Entry) → AreOf bs es → total (λ e. total (λ a. at_place f a c e) bs) es ≡ total (in_issue f c) es
of_all f bs c [] h = refl
of_all f bs c (e ∷ es) h = rw (given_once e.account (same_issue e.issue c) (f e) bs h.0, of_all f bs c es h.1) refl

-- what is booked for all accounts in an issue adds up to zero
all_zero : (f : Entry → ℤ) → ((es : List Entry) (c : Cusip) → IsBalanced es → total (in_issue f c) es ≡ pos 0) → (bs : List Account) (c : Cusip) (J : Journal) → AreSound bs J → total (λ a. total (λ p. total (at_place f a c) p.entries) J) bs ≡ pos 0
all_zero f zero_in bs c [] h = total-zero bs
all_zero f zero_in bs c (p ∷ J) h =
    total-add (λ a. total (at_place f a c) p.entries) (λ a. total (λ p. total (at_place f a c) p.entries) J) bs
    ∙ rw (total-swap (λ a e. at_place f a c e) bs p.entries, of_all f bs c p.entries h.0.1, zero_in p.entries c h.0.0, all_zero f zero_in bs c J h.1) refl

-- the positions, and the cents
pub positions_zero : (bs : List Account) (c : Cusip) (J : Journal) → AreSound bs J → total (λ a. position J a c) bs ≡ pos 0
positions_zero = all_zero (λ e. e.shares) (λ es c b. b.shares c)

pub cents_zero : (bs : List Account) (c : Cusip) (J : Journal) → AreSound bs J → total (λ a. total (λ p. total (cents_for a c) p.entries) J) bs ≡ pos 0
cents_zero = all_zero (λ e. e.cents) (λ es c b. b.cents c)

-- what holds of each posting holds of those of the open day, and of those that the last close found
pub each_part : (P : Posting → Type 0) (J : Journal) → AllByRecursion P J → AllByRecursion P (open_day J) × AllByRecursion P (last_close J)
each_part P [] h = (tt, tt)
each_part P (p ∷ J) h = grind (arith, each_part P J h.1)

-- ---- marks

pub times_sum : (a b : ℤ) (n : ℕ) → (a +ℤ b) *ℤ pos n ≡ (a *ℤ pos n) +ℤ (b *ℤ pos n)
times_sum a b zero = rw (*ℤ-zero (a +ℤ b), *ℤ-zero a, *ℤ-zero b) refl
times_sum a b (suc n) = omega (arith, ints, times_sum a b n, more (a +ℤ b), more a, more b)
  where
    more : (z : ℤ) → z *ℤ pos (suc n) ≡ (z *ℤ pos n) +ℤ z
    more z = cc (*ℤ_comm z (pos (suc n)), suc_ℤ-*ℤ (pos n) z, *ℤ_comm (pos n) z)

pub total-times : {X : Type 0} (f : X → ℤ) (n : ℕ) (xs : List X) → total (λ x. f x *ℤ pos n) xs ≡ total f xs *ℤ pos n
total-times f n [] = sym (zero-*ℤ (pos n))
total-times f n (x ∷ xs) = ap (λ k. (f x *ℤ pos n) +ℤ k) (total-times f n xs) ∙ sym (times_sum (f x) (total f xs) n)

values_zero : (bs : List Account) (c : Cusip) (J : Journal) → AreSound bs J → total (λ a. value J a c) bs ≡ pos 0
values_zero bs c J h = total-times (λ a. position J a c) (price J c) bs ∙ rw (positions_zero bs c J h) (zero-*ℤ (pos (price J c)))

-- the marks of all accounts in an issue add up to zero
pub marks_zero : (bs : List Account) (c : Cusip) (K : Journal) → AreSound bs K → total (λ a. mark K a c) bs ≡ pos 0
marks_zero bs c K h =
    let parts : AreSound bs (open_day K) × AreSound bs (last_close K) = each_part _ K h in
    total-add (λ a. value K a c -ℤ value (last_close K) a c) (λ a. money K a c) bs
    ∙ rw (
      total-add (λ a. value K a c) (λ a. neg_ℤ (value (last_close K) a c)) bs,
      total-neg (λ a. value (last_close K) a c) bs,
      values_zero bs c K h,
      values_zero bs c (last_close K) parts.1,
      cents_zero bs c (open_day K) parts.0,
    ) refl
