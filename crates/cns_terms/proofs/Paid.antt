-- Dividends add up to zero.
use Rattle.cns_terms.proofs.Facts.{◌≤◌, ◌≡◌, refl, pos, true, false, ◌==◌, List, [], ◌∷◌, arith, nat_cmp, Account, AllByRecursion, Cusip, Day, Declared, Journal, Rate, accounts, as_of, cash, dividend, member_dividend, members, total, zero-*ℤ, and_left, ints, nat_tests, position}
use Rattle.cns_terms.specs.Dividends.{due}
use Rattle.cns_terms.proofs.Rising.{from_one, is_rising}
use Rattle.cns_terms.proofs.Magnitudes.{total-same, total-zero}

-- the dividends of members
of_members : (opening : Day) (K : Journal) (c : Cusip) (ms : List Account) → AllByRecursion (λ a. 1 ≤ a) ms → total (λ a. dividend opening K a c) ms ≡ total (member_dividend opening K c) ms
of_members opening K c [] h = refl
of_members opening K c (a ∷ ms) h = grind (arith, nat_tests, of_members opening K c ms h.1)

-- what the members are paid, the corporation pays
pub dividends_zero : (opening : Day) (K : Journal) (c : Cusip) → is_rising nat_cmp (accounts K) ≡ true → total (λ a. dividend opening K a c) (accounts K) ≡ pos 0
dividends_zero opening K c h = omega (arith, ints, of_members opening K c (members K) (from_one (members K) (and_left _ _ h)))

-- ---- where nothing was booked none is paid

-- there is no cash on no shares
pub no_cash : (rate : Rate) → cash (pos 0) rate ≡ pos 0
no_cash rate = grind (arith, zero-*ℤ (pos rate))

-- nor are there dividends on them
none_paid : (opening : Day) (K : Journal) (c : Cusip) (a : Account) (ds : List Declared) → ((d : Day) → position (as_of opening K d) a c ≡ pos 0)
    → total (λ d. cash (position (as_of opening K d.recorded) a c) d.rate) ds ≡ pos 0
none_paid opening K c a [] h = refl
none_paid opening K c a (d ∷ ds) h = grind (arith, ints, h d.recorded, no_cash d.rate, none_paid opening K c a ds h)

-- an account other than the corporation's that had no shares
pub no_dividend-account : (opening : Day) (K : Journal) (c : Cusip) (a : Account) → (a == 0) ≡ false → ((d : Day) → position (as_of opening K d) a c ≡ pos 0) → dividend opening K a c ≡ pos 0
no_dividend-account opening K c a other h = rw other (none_paid opening K c a (due opening K c) h)

-- an issue in which no account had shares
pub no_dividend-issue : (opening : Day) (K : Journal) (c : Cusip) (a : Account) → ((b : Account) (d : Day) → position (as_of opening K d) b c ≡ pos 0) → dividend opening K a c ≡ pos 0
no_dividend-issue opening K c a h =
    let none : (b : Account) → member_dividend opening K c b ≡ pos 0 = λ b. none_paid opening K c b (due opening K c) (h b) in
    grind (arith, ints, total-same (member_dividend opening K c) (λ b. pos 0) (members K) none, total-zero (members K), none a)
