-- Trades that wait, in the order in which they were taken.
-- For `book_trade` of parts/trading.rt, `close_day` of parts/closing.rt, `split` and `exchange` of parts/actions.rt, clause step.
use Rattle.cns_book.proofs.Common.{◌≡◌, sym, refl, ◌≤◌, Bool, false, not, List, [], ◌∷◌, append-nil, filter, length, reverse, Option, arith, filter_map, Account, Activity, Contents, Cusip, Day, Follows, Journal, Pend, bought_by, bought_in, filter-append, ints, is_not_after, journal_len, length-map, length-reverse, list_any, neither, reverse_onto, sold_by, sold_in, waits_in, is_due, closes, sum_by-IsPermutation, IsPermutation-reverse, list_any-IsPermutation, filter_len}

pub bought-reverse : (ps : List Pend) (a : Account) (c : Cusip) → bought_in (reverse ps) a c ≡ bought_in ps a c
bought-reverse ps a c = sum_by-IsPermutation (bought_by a c) ps (reverse ps) (IsPermutation-reverse ps)

pub sold-reverse : (ps : List Pend) (a : Account) (c : Cusip) → sold_in (reverse ps) a c ≡ sold_in ps a c
sold-reverse ps a c = sum_by-IsPermutation (sold_by a c) ps (reverse ps) (IsPermutation-reverse ps)

pub waits-reverse : (ps : List Pend) (c : Cusip) → waits_in (reverse ps) c ≡ waits_in ps c
waits-reverse ps c = sym (list_any-IsPermutation _ ps (reverse ps) (IsPermutation-reverse ps))

pub filter-reverse : {X : Type 0} (t : X → Bool) (xs : List X) → filter t (reverse xs) ≡ reverse (filter t xs)
filter-reverse t [] = refl
filter-reverse t (x ∷ xs) = grind (arith, reverse_onto, filter-append, append-nil, filter-reverse t xs)

-- what waits for a later day also waited for an earlier one
pub still_later : (today next : Day) (ps : List Pend) → is_not_after next today ≡ false → filter (λ p. not (is_due next p)) (filter (λ p. not (is_due today p)) ps) ≡ filter (λ p. not (is_due next p)) ps
still_later today next [] h = refl
still_later today next (p ∷ ps) h = grind (arith, ints, still_later today next ps h)

-- where none is due nothing is kept
pub none_kept : {X : Type 0} (t : X → Bool) (xs : List X) → list_any t xs ≡ false → filter t xs ≡ []
none_kept t [] h = refl
none_kept t (x ∷ xs) h = grind (arith, neither, none_kept t xs)

pub chosen_few : {X Y : Type 0} (f : X → Option Y) (xs : List X) → length (filter_map f xs) ≤ length xs
chosen_few f [] = omega arith
chosen_few f (x ∷ xs) = grind (arith, chosen_few f xs)

-- no more trades wait than there are activities
pub pending_few : (s : Contents) (L : List Activity) → Follows L s → length s.trades.pending ≤ length L
pending_few s L f = grind (arith, length-reverse, filter_len, length-map, chosen_few, journal_len)

-- no more closes than postings
pub closes_le : (J : Journal) → closes J ≤ length J
closes_le [] = omega arith
closes_le (p ∷ J) = grind (arith, closes_le J)
