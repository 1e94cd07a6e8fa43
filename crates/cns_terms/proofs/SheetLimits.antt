-- What the sheet of a close asks of its amounts, and of the dividends that it pays.
use Rattle.cns_terms.proofs.Common.{◌≡◌, ◌∙◌, refl, ℕ, suc, ◌^◌, ◌≤◌, ◌<◌, ℤ, pos, ◌+ℤ◌, Bool, true, not, ◌&&◌, ◌==◌, cond, List, [], ◌∷◌, length, filter, take, arith, bytes_eq, unsigned_abs, sum_by, Account, AllByRecursion, Cusip, Day, Declared, IsLimited, Journal, Rate, Row, accounts, added, added-all, added-more, amount_limit, bytes_eq-Decides, cash, closings, dividends, front_total, history_limit, in_order, ints, issues, members_few, nat_list_eq_equiv, one_issue, over_all, pays_before, rate_limit, row, rows_for, sheet_rows, total, position, filter_len, same_order, sum_added, added-filter}
use Rattle.cns_terms.proofs.Amounts.{cents_small, rows_small}
use Rattle.cns_terms.proofs.DividendBounds.{cash_limit, dividends_few, dividends_small}
pub use Rattle.cns_terms.proofs.Sound.{accounts_grew}

-- ---- the rows of one account

-- the first of an account's rows, where the numbers of all rows are small
account_rows : (opening : Day) (K : Journal) (a : Account) (n : ℕ) (f : Row → ℤ) → over_all (λ b c. unsigned_abs (f (row opening K b c))) K ≤ amount_limit → unsigned_abs (total f (take n (rows_for (sheet_rows opening K) a))) ≤ amount_limit
account_rows opening K a n f h = grind (arith, front_total, added-filter, rows_small)

-- the cents of an account's first rows
pub account_cents_small : (opening : Day) (K : Journal) (a : Account) (n : ℕ) → IsLimited opening K → length K < history_limit → unsigned_abs (total (λ r. r.money) (take n (rows_for (sheet_rows opening K) a))) ≤ amount_limit
account_cents_small opening K a n l few = account_rows opening K a n (λ r. r.money) (omega (arith, cents_small opening K l few))

-- and their dividends
pub account_dividends_small : (opening : Day) (K : Journal) (a : Account) (n : ℕ) → IsLimited opening K → AllByRecursion (IsLimited opening) (closings K) → length K < history_limit → unsigned_abs (total (λ r. r.dividend) (take n (rows_for (sheet_rows opening K) a))) ≤ amount_limit
account_dividends_small opening K a n l past few = account_rows opening K a n (λ r. r.dividend) (dividends_small opening K l past few)

-- ---- what a dividend pays all members

module _ (opening : Day) (K : Journal) (l : IsLimited opening K) (c : Cusip) (rate : Rate) (low : rate ≤ rate_limit) where
  -- the cash of a member in the issue, and nothing for the corporation
  abbrev cash_of : Account → ℤ
  cash_of a = cond (not (a == 0)) (cash (position K a c) rate) (pos 0)

  -- it is small
  cash_few : (a : Account) → unsigned_abs (cash_of a) ≤ cash_limit
  cash_few a = grind (arith, ints)

  -- a row's cash is that of its account, or nothing
  row_few : (a : Account) (d : Cusip) → unsigned_abs (cond (bytes_eq d c && not (a == 0)) (cash (position K a d) rate) (pos 0)) ≤ unsigned_abs (cond (true && bytes_eq c d) (cash_of a) (pos 0))
  row_few a d = grind (arith, bytes_eq-Decides)

  -- what the dividend pays all members
  pub payable : sum_by (λ r. unsigned_abs (cond (bytes_eq r.issue c && not (r.account == 0)) (cash r.closing rate) (pos 0))) (sheet_rows opening K) ≤ 10 ^ 21
  payable =
      let f : Row → ℕ = λ r. unsigned_abs (cond (bytes_eq r.issue c && not (r.account == 0)) (cash r.closing rate) (pos 0)) in
      rw (sum_added f (sheet_rows opening K)) (omega (
        arith,
        rows_small opening K f,
        added-all (λ a. added (λ d. f (row opening K a d)) (issues K)) cash_limit (accounts K) (λ a. omega (
          arith,
          added-more (λ (d : Cusip). f (row opening K a d)) (λ d. unsigned_abs (cond (true && bytes_eq c d) (cash_of a) (pos 0))) (issues K) (row_few a),
          one_issue true c (cash_of a) (issues K) l.whole.now.issues_rise,
          cash_few a,
        )),
        members_few opening K l,
      ))

-- ---- the dividends of a close, in any order

-- what is kept of one issue
kept_in : (f : Declared → ℤ) (p : Declared → Bool) (c : Cusip) (ds : List Declared) → total (λ d. cond (bytes_eq c d.issue) (f d) (pos 0)) (filter p ds) ≡ total f (filter (λ d. bytes_eq d.issue c && p d) ds)
kept_in f p c [] = refl
kept_in f p c (d ∷ ds) = grind (arith, ints, nat_list_eq_equiv.symm c d.issue, kept_in f p c ds)

-- an order leaves the sum of what is kept as it is
kept_order : {X : Type 0} (g : X → ℤ) (p : X → Bool) (before : X → X → Bool) (xs : List X) → total g (filter p (in_order before xs)) ≡ total g (filter p xs)
kept_order g p = same_order (λ xs. total g (filter p xs)) (λ x z. cond (p x) (g x) (pos 0) +ℤ z) (λ x xs. grind arith) (λ x y z. omega (arith, ints))

-- of what is due, that of one issue
pub total-due : (f : Declared → ℤ) (p : Declared → Bool) (c : Cusip) (ds : List Declared) → total (λ d. cond (bytes_eq c d.issue) (f d) (pos 0)) (filter p (in_order pays_before ds)) ≡ total f (filter (λ d. bytes_eq d.issue c && p d) ds)
total-due f p c ds = kept_order (λ d. cond (bytes_eq c d.issue) (f d) (pos 0)) p pays_before ds ∙ kept_in f p c ds

-- no more dividends are due than there are postings
pub due_few : (p : Declared → Bool) (K : Journal) → length (filter p (in_order pays_before (dividends K))) ≤ length K
due_few p K = omega (arith, filter_len p (in_order pays_before (dividends K)), same_order length (λ d n. suc n) (λ d ds. refl) (λ d e n. refl) pays_before (dividends K), dividends_few K)
