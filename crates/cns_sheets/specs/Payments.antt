-- What a close pays of dividends, and the rows that it cuts.
use Rattle.std.specs.Prelude.{◌≡◌, ◌^◌, ◌≤◌, ◌==◌, ◌&&◌, ℤ, pos, neg_ℤ, true, not, List, map, Option, Some, None, unwrap_or, unsigned_abs, if◌then◌else◌, sum_by}
use Rattle.cns_sheets.specs.Common.{cash, corporation, is_idle, is_sorted, key_cmp, option_map_or, same_issue, total, Key, Row, Rows, holding_at, Listed, price_in}
use Rattle.cns_terms.specs.declared.action.Declared.{Declared}
use Rattle.cns_sheets.specs.Build.{PriceList, by_key, price_on, priced_row}
use Rattle.cns_sheets.specs.Search.{row_at}
use Rattle.cns_sheets.specs.declared.payments.Payment.{Payment}

-- a dividend that a close pays, with the rows of the sheet of its record date
abbrev pub Paying : Type 0
Paying = Declared × List Row

-- the same of payments, whose sheets are elsewhere
abbrev pub paying : {A : Type 0} → List (Payment A) → List Paying
paying ps = map (λ p. (p.declared, p.sheet.now.rows)) ps

-- the closing position of a key among rows, 0 where it has none
abbrev pub closing_at : List Row → Key → ℤ
closing_at rows k = option_map_or (λ r. r.closing) (row_at rows k) (pos 0)

-- the cash of a dividend on a row of the sheet of its record date, which only a member's row in the issue has
abbrev pub member_cash : Declared → Row → ℤ
member_cash d r = if same_issue r.issue d.issue && not (r.account == corporation) then cash r.closing d.rate else pos 0

-- what a dividend books at a key; the corporation's part is the opposite of what all members get
abbrev pub paid : Declared → List Row → Key → ℤ
paid d rows k =
    if same_issue k.issue d.issue then
    (if k.account == corporation then neg_ℤ (total (member_cash d) rows) else cash (closing_at rows k) d.rate)
    else pos 0

-- what all dividends of a close book at a key
abbrev pub dividend_of : List Paying → Key → ℤ
dividend_of ps k = total (λ p. paid p.0 p.1 k) ps

-- what a dividend pays all members is small enough to be added up
abbrev pub IsPayable : Paying → Type 0
IsPayable p = sum_by (λ r. unsigned_abs (member_cash p.0 r)) p.1 ≤ 10 ^ 21

-- the row of a key at a close, by the prices of the close before and of this one
abbrev pub cut_row : PriceList → Listed → Rows → List Paying → Key → Row
cut_row before prices positions ps k =
    priced_row (unwrap_or (price_on before k.issue) 0) (unwrap_or (price_in prices k.issue) 0) (dividend_of ps k) (k, holding_at positions k)

-- a row, unless it says nothing
abbrev pub said : Row → Option Row
said r = if is_idle r then None else Some r

-- the rows that a close cuts: in the order of keys, the row of each key that says something
pub record IsCut (before : PriceList) (prices : Listed) (positions : Rows) (ps : List Paying) (rows : List Row) : Type 0 where
  pub order : is_sorted key_cmp (by_key rows) ≡ true
  pub each : (k : Key) → row_at rows k ≡ said (cut_row before prices positions ps k)
