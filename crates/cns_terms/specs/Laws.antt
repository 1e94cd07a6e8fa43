-- The laws of the definitions, over any list of commands.
use Rattle.std.specs.Prelude.{ℕ, ◌≡◌, ◌≤◌, ◌<◌, ℤ, pos, ◌*ℤ◌, unsigned_abs, nat_lt, Bool, true, ◌&&◌, List, [], ◌∷◌, length, map, slice_get, take, Some}
use Rattle.cns_terms.specs.Common.{Account, Activity, AllByRecursion, Command, Cusip, Day, DaySheet, IsCommandInRange, IsReached, IsWithin, Journal, Row, accounts, after, amount_limit, bought_in, closes, corporation_limit, history_limit, journal, journal_of, money, opened, option_map_or, pending, position, position_limit, rows_for, rules_of, sheet_at, sheet_on, sold_in, statement, total}
use Rattle.cns_terms.specs.Numbers.{refusal_number}

-- ---- what commands lead to

-- after any commands whose values are in their ranges, each accepted activity is in range and was not refused
abbrev pub Reaches : Type 0
Reaches = (opening : Day) (cmds : List Command) →
    AllByRecursion IsCommandInRange cmds → IsReached opening (after (opened opening) cmds).accepted

-- ---- sums

-- the marks of a sheet's rows add up to zero, and so do the dividends
pub record AddsUpToZero (s : DaySheet) : Type 0 where
  pub marks : total (λ r. r.mark) s.rows ≡ pos 0
  pub dividends : total (λ r. r.dividend) s.rows ≡ pos 0

-- the sheet of each closed day adds up to zero, by the day's place and by its date
pub record SheetsAddUp (opening : Day) (J : Journal) : Type 0 where
  pub by_place : (i : ℕ) → AddsUpToZero (sheet_at opening J i)
  pub by_date : (d : Day) (s : DaySheet) → sheet_on opening J d ≡ Some s → AddsUpToZero s

-- over activities that commands reach, the sheet of each closed day adds up to zero
abbrev pub ZeroSums : Type 0
ZeroSums = (opening : Day) (L : List Activity) → IsReached opening L → SheetsAddUp opening (journal opening L)

-- in an issue the positions of all accounts add up to zero, and so do the open day's cents
pub record IsBalancedIn (J : Journal) (c : Cusip) : Type 0 where
  pub shares : total (λ a. position J a c) (accounts J) ≡ pos 0
  pub cents : total (λ a. money J a c) (accounts J) ≡ pos 0

-- and so it is in each issue, over activities that commands reach
abbrev pub Positions : Type 0
Positions = (opening : Day) (L : List Activity) (c : Cusip) → IsReached opening L → IsBalancedIn (journal opening L) c

-- ---- closed days

-- the statement of an account on two sheets: its first line and its rows are the same
pub record IsSameStatement (s t : DaySheet) (a : Account) : Type 0 where
  pub stated : statement s a ≡ statement t a
  pub rows : rows_for s.rows a ≡ rows_for t.rows a

-- each day that is closed in the first journal has the same sheet in the second, by its place and by its date, and so
-- each account has the same statement
pub record KeepsDays (opening : Day) (J J' : Journal) : Type 0 where
  pub by_place : (i : ℕ) → i ≤ closes J → sheet_at opening J' i ≡ sheet_at opening J i
  pub by_date : (d : Day) (s : DaySheet) → sheet_on opening J d ≡ Some s → sheet_on opening J' d ≡ Some s
  pub statements : (i : ℕ) (a : Account) → i ≤ closes J → IsSameStatement (sheet_at opening J' i) (sheet_at opening J i) a

-- after any commands, and any more, each day that was closed has the sheet and the statements that it had
abbrev pub ClosedDays : Type 0
ClosedDays = (opening : Day) (cmds more : List Command) →
    let S = after (opened opening) cmds in KeepsDays opening (journal_of S) (journal_of (after S more))

-- ---- refusals

-- whether each number is less than the next
abbrev pub rises : List ℕ → Bool
rises [] = true
rises (n ∷ ns) = option_map_or (nat_lt n) (slice_get ns 0) true && rises ns

-- the rules of each command stand in the order of the refusals' numbers
abbrev pub RefusalOrder : Type 0
RefusalOrder = (opening : Day) (J : Journal) (cmd : Command) → rises (map (λ r. refusal_number r.0) (rules_of opening J cmd)) ≡ true

-- ---- limits

-- in an issue each member's position is within its limit, and so it is with the trades that wait; and so is the corporation's
pub record IsBounded (opening : Day) (J : Journal) (c : Cusip) : Type 0 where
  pub members : (a : Account) → 1 ≤ a → unsigned_abs (position J a c) ≤ position_limit
  pub waiting : (a : Account) → 1 ≤ a → IsWithin (position J a c) (bought_in (pending opening J) a c) (sold_in (pending opening J) a c)
  pub corporation : unsigned_abs (position J 0 c) ≤ corporation_limit

-- over activities that commands reach, positions stay within their limits
abbrev pub Bounds : Type 0
Bounds = (opening : Day) (L : List Activity) (c : Cusip) → IsReached opening L → IsBounded opening (journal opening L) c

-- a number of each row, added up from the first row to any other, stays within the limit of amounts
abbrev pub StaysSmall : (Row → ℤ) → DaySheet → Type 0
StaysSmall f s = (n : ℕ) → unsigned_abs (total f (take n s.rows)) ≤ amount_limit

-- so do the cents booked, the values at the close, the marks and the dividends
pub record HasSmallSums (s : DaySheet) : Type 0 where
  pub cents : StaysSmall (λ r. r.money) s
  pub values : StaysSmall (λ r. r.closing *ℤ pos r.price) s
  pub marks : StaysSmall (λ r. r.mark) s
  pub dividends : StaysSmall (λ r. r.dividend) s

-- the sums over a closed day's sheet are small, and so are the open day's cents of each account in each issue
pub record HasSmallAmounts (opening : Day) (J : Journal) (i : ℕ) : Type 0 where
  pub sheet : HasSmallSums (sheet_at opening J i)
  pub open_cents : (a : Account) (c : Cusip) → unsigned_abs (money J a c) ≤ amount_limit

-- over activities that commands reach, no more than a history holds, amounts stay within their limit
abbrev pub Amounts : Type 0
Amounts = (opening : Day) (L : List Activity) (i : ℕ) →
    IsReached opening L → length L < history_limit → HasSmallAmounts opening (journal opening L) i
