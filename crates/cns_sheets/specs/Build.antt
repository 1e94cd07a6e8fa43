-- A row of a sheet, and what a sheet keeps.
use Rattle.std.specs.Prelude.{◌≡◌, ℕ, ◌*◌, ◌^◌, ◌<◌, ◌≤◌, ℤ, pos, ◌+ℤ◌, ◌-ℤ◌, ◌*ℤ◌, true, List, [], length, map, take, Option, Some, None, unsigned_abs, if◌then◌else◌}
use Rattle.cns_sheets.specs.Common.{Account, AllByRecursion, Cusip, DaySheet, Price, amount_limit, is_sorted, key_cmp, member_limit, nat_cmp, row_key, rows_for, same_issue, slice_cmp, total, find, Holding, Key, Row}
use Rattle.cns_sheets.specs.LowestCusip.{IsFromLowest}

-- issues with their prices, in the order of the bytes of the issues
abbrev pub PriceList : Type 0
PriceList = List (Cusip × Price)

-- the price of an issue on a list, if it stands there
abbrev pub price_on : PriceList → Cusip → Option Price
price_on prices c = find (slice_cmp nat_cmp) c prices

-- the prices of the sheet before, none where there is none
abbrev pub prices_of : Option DaySheet → PriceList
prices_of None = []
prices_of (Some s) = s.prices

-- what a position is worth at a price
abbrev pub worth : ℤ → Price → ℤ
worth q p = q *ℤ pos p

-- the mark of a row: what it is worth now less what it was worth at the close before, and the cents booked
abbrev pub marked : ℤ → ℤ → Price → Price → ℤ → ℤ
marked opening closing opening_price price money = (worth closing price -ℤ worth opening opening_price) +ℤ money

-- the columns of a row that neither its key nor the rule of the mark gives
pub record Columns : Type 0 where
  pub opening : ℤ
  pub closing : ℤ
  pub opening_price : Price
  pub price : Price
  pub money : ℤ
  pub dividend : ℤ

-- the row of a key and its columns, marked by the rule
abbrev pub full_row : Key × Columns → Row
full_row e = record {
  account = e.0.account;
  issue = e.0.issue;
  opening = e.1.opening;
  closing = e.1.closing;
  opening_price = e.1.opening_price;
  price = e.1.price;
  money = e.1.money;
  mark = marked e.1.opening e.1.closing e.1.opening_price e.1.price e.1.money;
  dividend = e.1.dividend;
}

-- the rows of keys and their columns
abbrev pub full_rows : List (Key × Columns) → List Row
full_rows es = map full_row es

-- the columns of a holding and the cents of dividends, by its issue's price at the close before and at this one
abbrev pub columns_of : Price → Price → ℤ → Holding → Columns
columns_of opening_price price dividend h = record {
  opening = h.opening;
  closing = h.now;
  opening_price = opening_price;
  price = price;
  money = h.contract;
  dividend = dividend;
}

-- the row that they make at a key
abbrev pub priced_row : Price → Price → ℤ → Key × Holding → Row
priced_row opening_price price dividend e = full_row (e.0, columns_of opening_price price dividend e.1)

-- rows with their keys
abbrev pub by_key : List Row → List (Key × Row)
by_key rows = map (λ r. (row_key r, r)) rows

-- a row's closing position, if it is in the issue
abbrev pub closing_in : Cusip → Row → ℤ
closing_in c r = if same_issue r.issue c then r.closing else pos 0

-- a row's mark follows its other columns, what it gains beside the cents booked is small enough to be added up, its issue
-- is not below the lowest, and its account is one
pub record IsMarked (r : Row) : Type 0 where
  pub rule : r.mark ≡ marked r.opening r.closing r.opening_price r.price r.money
  pub gained : unsigned_abs (r.mark -ℤ r.money) ≤ 2 ^ 64 * 10 ^ 9
  pub issue : IsFromLowest r.issue
  pub account : r.account ≤ member_limit

-- rows whose closings add up to zero in each issue, and their marks and dividends over all
pub record AreBalanced (rows : List Row) : Type 0 where
  pub closings : (c : Cusip) → total (closing_in c) rows ≡ pos 0
  pub marks : total (λ r. r.mark) rows ≡ pos 0
  pub dividends : total (λ r. r.dividend) rows ≡ pos 0

-- no account has more rows than a history has entries
abbrev pub AreFew : List Row → Type 0
AreFew rows = (a : Account) → length (rows_for rows a) ≤ 2 ^ 32

-- a number of an account's rows stays small while it is added up
abbrev pub StaysSmall : (Row → ℤ) → ℕ → List Row → Type 0
StaysSmall f most rows = (a : Account) (n : ℕ) → unsigned_abs (total f (take n (rows_for rows a))) ≤ most

-- so do the cents booked and the dividends
pub record HaveSmallAmounts (rows : List Row) : Type 0 where
  pub cents : StaysSmall (λ r. r.money) amount_limit rows
  pub dividends : StaysSmall (λ r. r.dividend) amount_limit rows

-- what is added up of an account's rows stays within this, and so within 128 bits
abbrev pub sum_limit : ℕ
sum_limit = 8 * 10 ^ 37

-- what a sheet keeps: rows and prices in order, each row marked by the rule, and all of them balanced
pub record IsSheet (prices : PriceList) (rows : List Row) : Type 0 where
  pub prices_rise : is_sorted (slice_cmp nat_cmp) prices ≡ true
  pub rows_rise : is_sorted key_cmp (by_key rows) ≡ true
  pub rows_marked : AllByRecursion IsMarked rows
  pub balanced : AreBalanced rows
  pub few : AreFew rows
  pub small_marks : StaysSmall (λ r. r.mark) sum_limit rows
  pub small_dividends : StaysSmall (λ r. r.dividend) sum_limit rows

-- the same of the rows whose columns stand in a tree, and no more of them than a machine counts
pub record IsPlanted (prices : PriceList) (es : List (Key × Columns)) : Type 0 where
  pub sheet : IsSheet prices (full_rows es)
  pub countable : length es < 2 ^ 64

-- the cents of a holding are small enough to be marked
abbrev pub HasSmallCents : Key × Holding → Type 0
HasSmallCents e = unsigned_abs e.1.contract ≤ amount_limit
