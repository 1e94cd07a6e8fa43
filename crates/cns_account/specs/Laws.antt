-- The laws of a closed day.
use Rattle.std.specs.Prelude.{◌≡◌, ◌≤◌, ◌<◌, ◌^◌, ℕ, ◌+◌, ◌-◌, ℤ, ◌+ℤ◌, Bool, false, ◌&&◌, List, [], ◌∷◌, ◌++◌, filter, length, option_map, option_to_list, Option, Some, None, Ok, Err, ⊤}
use Rattle.cns_account.specs.Common.{AllByRecursion, is_eq, Day, State, answer, is_same_day, key_cmp, member_limit, opened, shares_limit, Command, Key, Row, history, is_movement, row_on, HistoryLine, Moved, Moves, Activity}
use Rattle.cns_terms.specs.Reached.{IsCommandInRange}
use Rattle.cns_book.specs.Log.{state_of}
use Rattle.cns_feed.specs.Line.{Line}
use Rattle.cns_feed.specs.Output.{state_after_line}
use Rattle.cns_feed.specs.Replay.{blank_log, log_after}
use Rattle.cns_history.specs.declared.play.Watched.{Watched}
use Rattle.cns_account.specs.Moves.{moved_at}
use Rattle.cns_account.specs.Past.{date_told}
use Rattle.cns_history.specs.Entries.{looked_at}
use Rattle.cns_account.specs.Rows.{moved, valued}

-- ---- the lines of movements

-- whether a line tells what was booked at a place
abbrev pub is_line_at : Key → HistoryLine → Bool
is_line_at k (HistoryLine.Booking b) = is_eq (key_cmp (record { account = b.account; issue = b.issue }) k)
is_line_at k (HistoryLine.Closing c) = false

-- whether a line tells what a movement booked on the day with the date
abbrev pub is_moved : Day → HistoryLine → Bool
is_moved d (HistoryLine.Booking b) = is_same_day b.date d && is_movement (Command.Activity b.activity)
is_moved d (HistoryLine.Closing c) = false

-- of the lines of a day's movements, those at a place are all that movements booked there on the day, each once
abbrev pub PlacesAreWhole : Type 0
PlacesAreWhole = (k : Key) (opening : Day) (ls : List Line) (d : Day) → k.account ≤ member_limit →
    filter (is_line_at k) (history (Watched.Movements d) 0 (opened opening) ls)
    ≡ filter (is_moved d) (history (Watched.Place k) 0 (opened opening) ls)

-- ---- a day's records

-- the date of the day that a record closes, in the state before it
abbrev pub day_closed : State → Line → Option Day
day_closed S (Ok cmd) = date_told (answer S cmd)
day_closed S (Err f) = None

-- the days that records close, each with the number of its record, after so many others
unfoldable pub closes : ℕ → State → List Line → List (ℕ × Day)
closes n S [] = []
closes n S (l ∷ ls) = option_to_list (option_map (λ d. (n + 1, d)) (day_closed S l)) ++ closes (n + 1) (state_after_line S l) ls

-- the date of the last of some closes, after another, if there was one
abbrev pub last_of : Option Day → List (ℕ × Day) → Option Day
last_of before [] = before
last_of before (c ∷ cs) = last_of (Some c.1) cs

-- ---- what moved a position

-- what each cause has, added up
abbrev pub of_causes : (Moved → ℤ) → Moves → ℤ
of_causes f m = f m.trades +ℤ (f m.delivered +ℤ (f m.received +ℤ (f m.actions +ℤ f m.buy_ins)))

-- what moved a position takes it from its opening to its closing, its cents are the settling money, and with the price change it
-- comes to the mark
pub record AddUp (r : Row) (m : Moves) : Type 0 where
  pub shares : r.opening +ℤ of_causes (λ x. x.shares) m ≡ r.closing
  pub cents : of_causes (λ x. x.cents) m ≡ r.money
  pub mark : moved r +ℤ of_causes (valued r.price) m ≡ r.mark

-- the shares of a trade or a delivery are in their range
abbrev pub HasFewShares : Command → Type 0
HasFewShares (Command.Activity (Activity.Trade t)) = t.shares ≤ shares_limit
HasFewShares (Command.Activity (Activity.Deliver m)) = m.shares ≤ shares_limit
HasFewShares _ = ⊤

-- and the values of a record's command are in theirs
abbrev pub IsLineInRange : Line → Type 0
IsLineInRange (Ok cmd) = IsCommandInRange cmd × HasFewShares cmd
IsLineInRange (Err f) = ⊤

-- of records in their ranges, fewer than a book takes, that end with a close: what moved a position of the day's sheet adds up, by the
-- trades that settled after the day before, and by the lines of the day's movements
abbrev pub MovesAddUp : Type 0
MovesAddUp = (k : Key) (opening : Day) (ls : List Line) (cs : List (ℕ × Day)) (d : Day) (r : Row) →
    k.account ≤ member_limit → AllByRecursion IsLineInRange ls → length ls < 2 ^ 32 - 1 →
    closes 0 (opened opening) ls ≡ cs ++ (length ls, d) ∷ [] →
    let log = log_after (blank_log opening) ls in
    let lines = history (Watched.Movements d) 0 (opened opening) ls in
    row_on (state_of log) k d ≡ Some r → AddUp r (moved_at (last_of None cs) d (looked_at log.history) lines k)
