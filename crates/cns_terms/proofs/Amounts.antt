-- No sum of a day leaves the limit of amounts.
use Rattle.cns_terms.proofs.Common.{ℕ, ◌+◌, ◌*◌, ◌≤◌, ◌<◌, ℤ, pos, neg_ℤ, ◌*ℤ◌, ◌==◌, cond, not, List, [], ◌∷◌, length, map, arith, unsigned_abs, mul-le-mul_left, mul-le-mul, Account, Activity, AllByRecursion, Cusip, Day, Entry, IsLimited, IsReached, IsSound, Journal, Posting, Row, accounts, added, added-all, added-more, amount_limit, at_close, booking_limit, bounded, cents_for, closings, corporation_limit, day, day_sheet, each_closing, each_first, each_found, for_members, front_total, history_limit, ints, is_idle, issues, issues_few, journal, journal_len, last_close, limited, limited_past, mark, member_limit, money, occurs, one_issue, open_day, over_all, position_limit, price, price_limit, row, rows_of, sheet_rows, total, unsigned_abs-mul, position, Amounts, HasSmallSums, StaysSmall, value, cents_of, open_small, added-filter, added-flat_map, added-map, over_more, over_total, limited_nil, at_most_one}
use Rattle.cns_terms.proofs.DividendBounds.{dividends_small}

-- a journal with its limits, and those of its closes; there are few postings
record AreSmall (opening : Day) (K : Journal) : Type 0 where
  limited : IsLimited opening K
  past : AllByRecursion (IsLimited opening) (closings K)
  few : length K < history_limit

-- such is a journal that commands reach
all_small : (opening : Day) (L : List Activity) → IsReached opening L → length L < history_limit → AreSmall opening (journal opening L)
all_small opening L r few = record { limited = limited opening L r; past = limited_past opening L r; few = omega (arith, few, journal_len opening L) }

-- a sheet's rows are of accounts and issues, each once at most
pub rows_small : (opening : Day) (K : Journal) (f : Row → ℕ) → added f (sheet_rows opening K) ≤ over_all (λ a c. f (row opening K a c)) K
rows_small opening K f = added-flat_map f (rows_of opening K) (λ a. added (λ c. f (row opening K a c)) (issues K)) (accounts K) (λ a. omega (
  arith,
  added-filter f (λ r. not (is_idle r)) (map (row opening K a) (issues K)),
  added-map f (row opening K a) (issues K),
))

-- ---- cents

-- a number given to an account, as often as it stands there
given_often : (i : ℕ) (z : ℤ) (bs : List ℕ) → added (λ a. unsigned_abs (cond (i == a) z (pos 0))) bs ≤ occurs i bs * unsigned_abs z
given_often i z [] = omega arith
given_often i z (b ∷ bs) = grind (arith, given_often i z bs)

-- an entry's cents stand at one place at most
entry_cents : (K : Journal) → IsSound K → (e : Entry) → over_all (λ a c. unsigned_abs (cents_for a c e)) K ≤ unsigned_abs e.cents
entry_cents K s e =
    omega (
      arith,
      added-more (λ a. added (λ c. unsigned_abs (cents_for a c e)) (issues K)) (λ a. unsigned_abs (cond (e.account == a) e.cents (pos 0))) (accounts K) (λ a. one_issue (e.account == a) e.issue e.cents (issues K) s.issues_rise),
      given_often e.account e.cents (accounts K),
      at_most_one (occurs e.account (accounts K)) (unsigned_abs e.cents) (s.distinct e.account),
    )

-- the cents of a day, at most
abbrev pub cents_limit : ℕ
cents_limit = booking_limit * history_limit

-- the cents of all accounts in all issues
pub cents_small : (opening : Day) (K : Journal) → IsLimited opening K → length K < history_limit → over_all (λ a c. unsigned_abs (money K a c)) K ≤ cents_limit
cents_small opening K l few =
    omega (
      arith,
      over_total (λ a c (p : Posting). total (cents_for a c) p.entries) (open_day K) K,
      added-more (λ (p : Posting). over_all (λ a c. unsigned_abs (total (cents_for a c) p.entries)) K) cents_of (open_day K) (λ p. omega (
        arith,
        over_total cents_for p.entries K,
        added-more (λ (e : Entry). over_all (λ a c. unsigned_abs (cents_for a c e)) K) (λ e. unsigned_abs e.cents) p.entries (entry_cents K l.whole.now),
      )),
      open_small K,
      l.booked,
      few,
    )

-- ---- values

-- the value of an account in all issues
row_value : (K J : Journal) (a : Account) (n : ℕ) → ((c : Cusip) → unsigned_abs (position J a c) ≤ n) → ((c : Cusip) → price J c ≤ price_limit) → added (λ c. unsigned_abs (value J a c)) (issues K) ≤ n * price_limit * length K
row_value K J a n h p = omega (
  arith,
  added-all (λ c. unsigned_abs (value J a c)) (n * price_limit) (issues K) (λ c. omega (arith, unsigned_abs-mul (position J a c) (pos (price J c)), mul-le-mul (h c) (p c))),
  mul-le-mul_left (n * price_limit) (issues_few K),
)

-- the values of all accounts in all issues, at most
abbrev pub values_limit : ℕ
values_limit = (corporation_limit + position_limit * member_limit) * price_limit * history_limit

-- the value of all accounts in all issues
values_small : (opening : Day) (K J : Journal) → IsLimited opening K → IsLimited opening J → length K < history_limit → over_all (λ a c. unsigned_abs (value J a c)) K ≤ values_limit
values_small opening K J k j few = omega (
  arith,
  row_value K J 0 corporation_limit (λ c. (bounded opening J c j).corporation) j.prices,
  for_members opening K (λ a. added (λ c. unsigned_abs (value J a c)) (issues K)) (position_limit * price_limit * length K) k (λ a m. row_value K J a position_limit (λ c. (bounded opening J c j).members a m) j.prices),
)

-- the marks of all accounts in all issues
marks_small : (opening : Day) (K : Journal) → AreSmall opening K → over_all (λ a c. unsigned_abs (mark K a c)) K ≤ amount_limit
marks_small opening K s =
    let parts : List (Account → Cusip → ℤ) = value K ∷ (λ a c. neg_ℤ (value (last_close K) a c)) ∷ money K ∷ [] in
    omega (
      arith,
      over_more (λ a c. unsigned_abs (mark K a c)) (λ a c. unsigned_abs (total (λ g. g a c) parts)) K (λ a c. omega (arith, ints)),
      over_total (λ a c g. g a c) parts K,
      over_more (λ a c. unsigned_abs (neg_ℤ (value (last_close K) a c))) (λ a c. unsigned_abs (value (last_close K) a c)) K (λ a c. omega (arith, ints)),
      values_small opening K K s.limited s.limited s.few,
      values_small opening K (last_close K) s.limited (each_first (IsLimited opening) [] (closings K) limited_nil s.past) s.few,
      cents_small opening K s.limited s.few,
    )

-- ---- the sheet

-- the first rows of a sheet, where the numbers of all rows are small
first_rows : (opening : Day) (K : Journal) (f : Row → ℤ) → over_all (λ a c. unsigned_abs (f (row opening K a c))) K ≤ amount_limit → StaysSmall f (day_sheet opening K)
first_rows opening K f h n = front_total f n amount_limit (sheet_rows opening K) (omega (arith, rows_small opening K (λ r. unsigned_abs (f r)), h))

-- the sums over a sheet are small
sheet_small : (opening : Day) (K : Journal) → AreSmall opening K → HasSmallSums (day_sheet opening K)
sheet_small opening K s = record {
  cents = first_rows opening K (λ r. r.money) (omega (arith, cents_small opening K s.limited s.few));
  values = first_rows opening K (λ r. r.closing *ℤ pos r.price) (omega (arith, values_small opening K K s.limited s.limited s.few));
  marks = first_rows opening K (λ r. r.mark) (marks_small opening K s);
  dividends = first_rows opening K (λ r. r.dividend) (dividends_small opening K s.limited s.past s.few);
}

-- over activities that commands reach, no more than a history holds, amounts stay within their limit
pub amounts : Amounts
amounts opening L i r few =
    let J : Journal = journal opening L in
    let past = each_closing opening (AreSmall opening) history_limit (all_small opening) L r few in
    let now = all_small opening L r few in
    record {
      sheet = sheet_small opening (at_close J i) (each_found (AreSmall opening) (λ K. day K == i) [] (closings J) (all_small opening [] tt (omega arith)) past);
      open_cents = λ a c. omega (arith, now.limited.cents a c, now.few);
    }
