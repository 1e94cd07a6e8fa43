-- No dividends of a day leave the limit of amounts.
use Rattle.cns_terms.proofs.Common.{◌≡◌, ℕ, ◌*◌, ◌^◌, ◌≤◌, ◌<◌, ℤ, pos, Bool, true, false, ◌&&◌, ◌==◌, cond, filter, List, [], ◌∷◌, length, arith, nat_cmp, bytes_eq, unsigned_abs, Account, AllByRecursion, Cusip, Day, Declared, IsLimited, Journal, Rate, added, added-all, added-more, amount_limit, as_of, cash, closings, date, dividend, dividends, each_found, for_members, history_limit, ints, is_rising, issues, last_date, magnitude, member_dividend, member_limit, members, nat_tests, one_issue, over_all, position_limit, rate_limit, slice_cmp, total_small, position, added-swap, AreSmallRates}
use Rattle.cns_terms.specs.Dividends.{due, is_due}

-- the most cents that a dividend pays on a member's position
abbrev pub cash_limit : ℕ
cash_limit = 10 ^ 17

-- the cash on a member's position
pub cash_small : (q : ℤ) (rate : Rate) → unsigned_abs q ≤ position_limit → rate ≤ rate_limit → unsigned_abs (cash q rate) ≤ cash_limit
cash_small q rate p s = grind (arith, ints)

-- ---- one member

module _ (opening : Day) (K : Journal) (closed : AllByRecursion (IsLimited opening) (closings K)) (a : Account) (member : 1 ≤ a) where
  -- the cash of one dividend
  abbrev paid : Cusip → Declared → ℤ
  paid c d = cash (position (as_of opening K d.recorded) a c) d.rate

  -- those that are due in an issue
  due_small : (c : Cusip) (test : Declared → Bool) (ds : List Declared) → AreSmallRates ds
      → added (λ d. unsigned_abs (paid c d)) (filter (λ d. bytes_eq d.issue c && test d) ds) ≤ added (λ d. unsigned_abs (cond (true && bytes_eq d.issue c) (pos cash_limit) (pos 0))) ds
  due_small c test [] r = omega arith
  due_small c test (d ∷ ds) r = grind (arith, each_found, cash_small, due_small c test ds r.1)

  -- the dividends of a member, over the issues
  member_small : is_rising (slice_cmp nat_cmp) (issues K) ≡ true → AreSmallRates (dividends K) → added (λ c. unsigned_abs (member_dividend opening K c a)) (issues K) ≤ cash_limit * length (dividends K)
  member_small rise rates =
      omega (
        arith,
        added-more (λ (c : Cusip). unsigned_abs (member_dividend opening K c a)) (λ c. added (λ d. unsigned_abs (cond (true && bytes_eq d.issue c) (pos cash_limit) (pos 0))) (dividends K)) (issues K) (λ c.
            omega (arith, total_small (paid c) (due opening K c), due_small c (is_due (last_date opening K) (date opening K)) (dividends K) rates)),
        added-swap (λ (c : Cusip) (d : Declared). unsigned_abs (cond (true && bytes_eq d.issue c) (pos cash_limit) (pos 0))) (issues K) (dividends K),
        added-all (λ (d : Declared). added (λ c. unsigned_abs (cond (true && bytes_eq d.issue c) (pos cash_limit) (pos 0))) (issues K)) cash_limit (dividends K) (λ d. one_issue true d.issue (pos cash_limit) (issues K) rise),
      )

-- ---- all accounts

-- no more dividends than postings
pub dividends_few : (K : Journal) → length (dividends K) ≤ length K
dividends_few [] = omega arith
dividends_few (p ∷ K) = grind (arith, dividends_few K)

-- what one account is paid or pays at a close, at most
abbrev account_limit : ℕ
account_limit = cash_limit * history_limit

-- the dividends of all accounts in all issues
pub dividends_small : (opening : Day) (K : Journal) → IsLimited opening K → AllByRecursion (IsLimited opening) (closings K) → length K < history_limit
    → over_all (λ a c. unsigned_abs (dividend opening K a c)) K ≤ amount_limit
dividends_small opening K l closed few =
    let apart : (a : Account) → 1 ≤ a → (a == 0) ≡ false = λ a member. grind (arith, nat_tests) in
    omega (arith, corporation_small, for_members opening K (λ a. added (λ c. unsigned_abs (dividend opening K a c)) (issues K)) account_limit l (λ a member. rw (apart a member) (one a member)))
  where
    one : (a : Account) → 1 ≤ a → added (λ c. unsigned_abs (member_dividend opening K c a)) (issues K) ≤ account_limit
    one a member = omega (arith, member_small opening K closed a member l.whole.now.issues_rise l.rates, dividends_few K, few)

    corporation_small : added (λ c. unsigned_abs (dividend opening K 0 c)) (issues K) ≤ account_limit * member_limit
    corporation_small =
        omega (
          arith,
          added-more (λ c. unsigned_abs (dividend opening K 0 c)) (λ c. magnitude (member_dividend opening K c) (members K)) (issues K) (λ c. omega (arith, ints, total_small (member_dividend opening K c) (members K))),
          added-swap (λ c a. unsigned_abs (member_dividend opening K c a)) (issues K) (members K),
          for_members opening K (λ a. added (λ c. unsigned_abs (member_dividend opening K c a)) (issues K)) account_limit l one,
        )
