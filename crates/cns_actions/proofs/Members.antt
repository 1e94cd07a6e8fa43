-- Lists of members in order.
-- For `split`, `exchange` and `bookings_for` of parts/actions.rt in cns_book, `close_day` of parts/closing.rt in cns_book and others.
use Rattle.cns_actions.proofs.Common.{◌≡◌, refl, ℕ, true, false, ◌==◌, List, [], ◌∷◌, arith, nat_cmp, above_all, are_distinct, is_rising, list_any, nat_tests}

-- a number below all of a list is none of it
above_none : (a : ℕ) (ms : List ℕ) → above_all nat_cmp a ms ≡ true → list_any (λ b. a == b) ms ≡ false
above_none a [] h = refl
above_none a (m ∷ ms) h = grind (arith, nat_tests, above_none a ms)

-- a list of members in order names nobody twice
pub rising_distinct : (ms : List ℕ) → is_rising nat_cmp ms ≡ true → are_distinct ms ≡ true
rising_distinct [] h = refl
rising_distinct (m ∷ ms) h = grind (arith, above_none m ms, rising_distinct ms)
