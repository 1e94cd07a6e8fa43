-- Trades that wait: what they add up to, and what they book.
use Rattle.cns_terms.proofs.Facts.{◌≡◌, refl, ℕ, ◌+◌, pos, ◌-ℤ◌, neg_ℤ, Bool, false, not, ◌&&◌, ◌==◌, cond, List, [], ◌∷◌, filter, flat_map, reverse, sum_by, arith, Account, Cusip, Day, Entry, Journal, Pend, bought_in, date, is_not_after, pending, same_issue, shares_for, sold_in, total, trade_entries, trades, reverse_onto, due, is_due, ints, sum_by-cons}
use Rattle.cns_terms.proofs.Magnitudes.{added, added-append, magnitude}

-- a sum, term by term
pub sum_added : {X : Type 0} (f : X → ℕ) (xs : List X) → sum_by f xs ≡ added f xs
sum_added f [] = refl
sum_added f (x ∷ xs) = grind (arith, sum_by-cons f x xs, sum_added f xs)

-- the same the other way round
added-reverse : {X : Type 0} (f : X → ℕ) (xs : List X) → added f (reverse xs) ≡ added f xs
added-reverse f [] = refl
added-reverse f (x ∷ xs) = rw (reverse_onto xs x []) (omega (arith, added-append f (reverse xs) (x ∷ []), added-reverse f xs))

-- what waits on a day is what waits on a later one and what is due on that
waits_or_due : (f : Pend → ℕ) (today next : Day) (ps : List Pend) → is_not_after next today ≡ false
    → added f (filter (λ p. not (is_due today p)) ps) ≡ added f (filter (λ p. not (is_due next p)) ps) + added f (filter (is_due next) (filter (λ p. not (is_due today p)) ps))
waits_or_due f today next [] h = refl
waits_or_due f today next (p ∷ ps) h = grind (arith, waits_or_due f today next ps h)

-- so it is of what waits in a journal, whatever is added up
pub settled : (f : Pend → ℕ) (opening : Day) (J : Journal) (next : Day) → is_not_after next (date opening J) ≡ false → added f (pending opening J) ≡ added f (filter (λ p. not (is_due next p)) (trades J)) + added f (due opening J next)
settled f opening J next h = rw (added-reverse f (filter (is_due next) (pending opening J))) (waits_or_due f (date opening J) next (trades J) h)

-- ---- sides

-- what one trade is to bring an account in an issue
abbrev pub bought_by : Account → Cusip → Pend → ℕ
bought_by a c p = cond ((p.buyer == a) && same_issue p.issue c) p.shares 0

-- and what it is to take
abbrev pub sold_by : Account → Cusip → Pend → ℕ
sold_by a c p = cond ((p.seller == a) && same_issue p.issue c) p.shares 0

pub bought_added : (ps : List Pend) (a : Account) (c : Cusip) → bought_in ps a c ≡ added (bought_by a c) ps
bought_added ps a c = sum_added (bought_by a c) ps

pub sold_added : (ps : List Pend) (a : Account) (c : Cusip) → sold_in ps a c ≡ added (sold_by a c) ps
sold_added ps a c = sum_added (sold_by a c) ps

-- ---- what trades book

-- the shares that trades book for an account in an issue
pub booked_shares : (a : Account) (c : Cusip) (ps : List Pend) → total (shares_for a c) (flat_map trade_entries ps) ≡ pos (added (bought_by a c) ps) -ℤ pos (added (sold_by a c) ps)
booked_shares a c [] = refl
booked_shares a c (p ∷ ps) = omega (arith, ints, booked_shares a c ps, either ((p.buyer == a) && same_issue p.issue c) p.shares, either ((p.seller == a) && same_issue p.issue c) p.shares)
  where
    either : (b : Bool) (n : ℕ) → (cond b (pos n) (pos 0) ≡ pos (cond b n 0)) × (cond b (neg_ℤ (pos n)) (pos 0) ≡ neg_ℤ (pos (cond b n 0)))
    either b n = grind arith

-- the cents that they book, whatever their signs
abbrev pub both_cents : Pend → ℕ
both_cents p = p.cents + p.cents

pub booked_cents : (ps : List Pend) → magnitude (λ (e : Entry). e.cents) (flat_map trade_entries ps) ≡ added both_cents ps
booked_cents [] = refl
booked_cents (p ∷ ps) = grind (arith, booked_cents ps)
