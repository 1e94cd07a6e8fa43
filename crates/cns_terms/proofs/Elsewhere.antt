-- A place at which nothing was booked has no row.
use Rattle.cns_terms.proofs.Common.{ℤ, ◌≡◌, ◌∙◌, refl, pos, Bool, false, not, ◌&&◌, [], ◌∷◌, arith, bytes_eq, Account, AllByRecursion, Cusip, Day, Entry, IsSound, Journal, Key, accounts, as_of, bytes_eq-Decides, closings, date, dividend, each_found, each_weaker, is_account, is_idle, is_listed, is_not_after, issues, last_close, list_any, open_day, total, nat_list_eq_equiv, nat_tests, occurs_missing, row, position, AreKnown, IsPlace}
use Rattle.cns_terms.proofs.ZeroSums.{at_place, is_at, none_at, each_part}
use Rattle.cns_terms.proofs.Paid.{no_dividend-account, no_dividend-issue}

-- none of the entries is booked at the place
abbrev pub AreElsewhere : Account → Cusip → Journal → Type 0
AreElsewhere a c J = AllByRecursion (λ p. AllByRecursion (λ e. is_at a c e ≡ false) p.entries) J

-- where nothing was booked, all that was adds up to nothing
none_booked : (f : Entry → ℤ) (a : Account) (c : Cusip) (J : Journal) → AreElsewhere a c J → total (λ p. total (at_place f a c) p.entries) J ≡ pos 0
none_booked f a c [] h = refl
none_booked f a c (p ∷ J) h = grind (arith, none_at f a c p.entries, none_booked f a c J h.1)

-- so there is no position
pub no_position : (a : Account) (c : Cusip) (J : Journal) → AreElsewhere a c J → position J a c ≡ pos 0
no_position = none_booked (λ e. e.shares)

-- nothing was booked there at any close
elsewhere_closed : (a : Account) (c : Cusip) (K : Journal) → AreElsewhere a c K → AllByRecursion (AreElsewhere a c) (closings K)
elsewhere_closed a c [] h = tt
elsewhere_closed a c (p ∷ K) h = grind (arith, elsewhere_closed a c K)

-- no shares stood there at any close
never_held : (opening : Day) (a : Account) (c : Cusip) (K : Journal) → AreElsewhere a c K → (d : Day) → position (as_of opening K d) a c ≡ pos 0
never_held opening a c K h d = no_position a c (as_of opening K d) (each_found (AreElsewhere a c) (λ P. is_not_after (date opening P) d) [] (closings K) tt (elsewhere_closed a c K h))

-- nor does one of a place at which nothing was booked and nothing is paid
idle_elsewhere : (opening : Day) (J : Journal) (a : Account) (c : Cusip) → AreElsewhere a c J → dividend opening J a c ≡ pos 0 → not (is_idle (row opening J a c)) ≡ false
idle_elsewhere opening J a c h paid =
    let parts : AreElsewhere a c (open_day J) × AreElsewhere a c (last_close J) = each_part _ J h in
    grind (arith, no_position a c J h, no_position a c (last_close J) parts.1, none_booked (λ e. e.cents) a c (open_day J) parts.0)

-- ---- an account that is not there, and an issue that is not listed

-- nothing was booked at what is no place of the journal
no_place_elsewhere : (J : Journal) (a : Account) (c : Cusip) → IsSound J → ((e : Entry) → IsPlace J e.account e.issue → is_at a c e ≡ false) → AreElsewhere a c J
no_place_elsewhere J a c s other = each_weaker (λ p. AreKnown J p.entries) (λ p. AllByRecursion (λ e. is_at a c e ≡ false) p.entries) J (λ p. each_weaker (λ e. IsPlace J e.account e.issue) (λ e. is_at a c e ≡ false) p.entries other) s.known

-- for an account that is not there, or in an issue that is not listed
pub no_account_elsewhere : (J : Journal) (a : Account) (c : Cusip) → IsSound J → is_account J a ≡ false → AreElsewhere a c J
no_account_elsewhere J a c s none = no_place_elsewhere J a c s (λ e k. grind (arith, nat_tests, occurs_missing a (accounts J) none, k.0))

no_issue_elsewhere : (J : Journal) (a : Account) (c : Cusip) → IsSound J → is_listed J c ≡ false → AreElsewhere a c J
no_issue_elsewhere J a c s none = no_place_elsewhere J a c s (λ e k. grind (arith, bytes_eq-Decides e.issue c, none, k.1))

-- at such a place the row says nothing
by_place : (opening : Day) (J : Journal) (k : Key) (x y : Bool) → IsSound J → is_account J k.account ≡ x → is_listed J k.issue ≡ y → (x && y) ≡ false → not (is_idle (row opening J k.account k.issue)) ≡ false
by_place opening J k x y s a l h = grind (arith, no_account_elsewhere J k.account k.issue s, no_issue_elsewhere J k.account k.issue s, idle_elsewhere opening J k.account k.issue, no_dividend-account opening J k.issue k.account, no_dividend-issue opening J k.issue k.account, never_held opening k.account k.issue J, (λ (b : Account). never_held opening b k.issue J), (λ (b : Account). no_issue_elsewhere J b k.issue s))

-- a place of no account or of no listed issue has no row
pub idle_at : (opening : Day) (J : Journal) (k : Key) → IsSound J → (is_account J k.account && list_any (λ c. bytes_eq k.issue c) (issues J)) ≡ false → not (is_idle (row opening J k.account k.issue)) ≡ false
idle_at opening J k s h =
    by_place opening J k _ _ s refl refl ((λ i. is_account J k.account && list_any (λ c. nat_list_eq_equiv.symm c k.issue i) (issues J)) ∙ h)
