-- The lines of a history: what each record booked at a place, and the closes; or what it booked at all places of some accounts.
use Rattle.std.specs.Prelude.{ℕ, ◌+◌, pos, ◌-ℤ◌, Bool, true, false, ◌&&◌, ◌==◌, if◌then◌else◌, List, [], ◌∷◌, ◌++◌, filter, filter_map, flat_map, map, Option, Some, None, Ok, is_some, slice_get, option_and_then, option_map, unwrap_or}
use Rattle.cns_history.specs.Common.{Account, Cusip, Day, State, answer, corporation, date, is_same_day, journal_of, next, sheet_on, Activity, Key, Row, notice_shown, position_shown, Line, state_after_line, Booking, Closing, HistoryLine, Watched}
use Rattle.std.specs.List.{range_with_len}
use Rattle.std.specs.Option.{option_map_or, option_to_list}
use Rattle.std.specs.Ordering.{int_eq}
use Rattle.cns_terms.specs.declared.command.Command.{Command}
use Rattle.cns_terms.specs.declared.holding.Holding.{Holding}
use Rattle.cns_terms.specs.declared.reply.Reply.{Reply}
use Rattle.cns_positions.specs.Rows.{zeros}
use Rattle.cns_sheets.specs.Search.{row_at}
use Rattle.cns_history.specs.declared.play.Whose.{Whose}

-- what stands at a key; zeros where a POSITION would be refused
abbrev pub standing : State → Key → Holding
standing S k = unwrap_or (position_shown S k) zeros

-- what a record's shares and cents are counted from: what stood there before it; a close ends the day's cents
abbrev pub counted_from : Holding → Reply → Holding
counted_from h (Reply.Closed c) = record h { contract = pos 0 }
counted_from h _ = h

-- what a record booked, on a date, counted from what stood there before up to what stands there after it
abbrev pub booking : Key → ℕ → Day → Activity → Holding → Holding → Booking
booking k n d x from to = record {
  number = n;
  date = d;
  account = k.account;
  issue = k.issue;
  activity = x;
  shares = to.now -ℤ from.now;
  cents = to.contract -ℤ from.contract;
  position = to.now;
  money = to.contract;
}

-- whether it booked neither shares nor cents
abbrev pub is_nothing : Booking → Bool
is_nothing b = int_eq b.shares (pos 0) && int_eq b.cents (pos 0)

-- its line, where it booked something
abbrev pub booked : Booking → Option HistoryLine
booked b = if is_nothing b then None else Some (HistoryLine.Booking b)

-- the row at a key on the sheet of the closed day with the date
abbrev pub row_on : State → Key → Day → Option Row
row_on S k d = option_and_then (λ s. row_at s.rows k) (sheet_on S.opening (journal_of S) d)

-- what an accepted close found at a key, in the state after it, where its day's sheet has a row there
abbrev pub closing : State → Key → ℕ → Reply → Option Closing
closing S k n (Reply.Closed c) =
    option_map (λ r. record { number = n; date = c.date; day = c.day; row = r; age = (standing S k).run }) (row_on S k c.date)
closing S k n _ = None

-- the lines of an activity that got a reply, in the state after it, by what stood there before it: that of a close, and that
-- of what it booked
abbrev pub lines_told : State → Key → ℕ → Activity → Holding → Reply → List HistoryLine
lines_told S k n x before r =
    option_to_list (option_map HistoryLine.Closing (closing S k n r))
    ++ option_to_list (booked (booking k n (date S.opening (journal_of S)) x (counted_from before r) (standing S k)))

-- the lines of a record, in the state before it
abbrev pub lines_at : Key → ℕ → State → Line → List HistoryLine
lines_at k n S (Ok (Command.Activity x)) =
    let cmd = Command.Activity x in lines_told (next S cmd) k n x (standing S k) (answer S cmd)
lines_at k n S _ = []

-- ---- all places of some accounts

-- an account's place in an issue
abbrev pub place : Account → Cusip → Key
place a c = record { account = a; issue = c }

-- whether an account has a position in an issue: the corporation or a member, where the issue is listed
abbrev pub has_position : State → Cusip → Account → Bool
has_position S c a = is_some (position_shown S (place a c))

-- the first numbers, so many
unfoldable pub numbers : ℕ → List Account
numbers n = range_with_len 0 n

-- the accounts that have a position in an issue, by number
abbrev pub accounts_in : State → Cusip → List Account
accounts_in S c = filter (has_position S c) (numbers 10000)

-- whether the bookings of an account that is named are wanted
abbrev pub is_wanted : Whose → Account → Bool
is_wanted (Whose.One b) a = a == b
is_wanted Whose.All a = true

-- the accounts whose bookings in some issues are wanted, by the first of them: each account has a position in all issues that are
-- listed, or in none
abbrev pub accounts_of : Whose → State → Option Cusip → List Account
accounts_of (Whose.One a) S c = a ∷ []
accounts_of Whose.All S None = []
accounts_of Whose.All S (Some c) = accounts_in S c

-- two accounts that are named, one and the same once
abbrev pub named : Account → Account → List Account
named a b = if b == a then a ∷ [] else a ∷ b ∷ []

-- the places of those of them whose bookings are wanted, in an issue
abbrev pub both : Whose → Account → Account → Cusip → List Key
both w a b c = map (λ a. place a c) (filter (is_wanted w) (named a b))

-- the places of each account whose bookings are wanted, in some issues
abbrev pub each : Whose → State → List Cusip → List Key
each w S cs = flat_map (λ a. map (place a) cs) (accounts_of w S (slice_get cs 0))

-- the places that an activity names and can book at; a close books at others
abbrev pub places : Whose → State → Activity → List Key
places w S (Activity.Trade t) = both w t.buyer t.seller t.issue
places w S (Activity.Deliver m) = both w corporation m.member m.issue
places w S (Activity.Receive m) = both w corporation m.member m.issue
places w S (Activity.Split s) = each w S (s.issue ∷ [])
places w S (Activity.Exchange x) = each w S (x.old ∷ x.successor ∷ [])
places w S (Activity.Execute x) = each w S (option_to_list (option_map (λ n. n.issue) (notice_shown S x.notice)))
places w S _ = []

-- what stands at a place
abbrev pub stood : State → Key → Key × Holding
stood S k = (k, standing S k)

-- what a close found there, of the state after it: the position at the last close, and no cents of the day that it opened
abbrev pub opened_since : State → Key → Key × Holding
opened_since T k = let h = standing T k in (k, record h { now = h.opening; contract = pos 0 })

-- the line of what an activity booked since something stood at a place, in the state after it
abbrev pub booked_since : ℕ → State → Activity → Key × Holding → Option HistoryLine
booked_since n T x s = booked (booking s.0 n (date T.opening (journal_of T)) x s.1 (standing T s.0))

-- the issues that were listed when the day with the date was closed
abbrev pub issues_on : State → Day → List Cusip
issues_on S d = option_map_or (λ s. map (λ e. e.0) s.prices) (sheet_on S.opening (journal_of S) d) []

-- the lines of an activity that got a reply, in the state after it: what it booked at the places where something stood before it, or
-- what a close booked in each issue
abbrev pub bookings_since : Whose → ℕ → State → Activity → Reply → List (Key × Holding) → List HistoryLine
bookings_since w n T x (Reply.Closed c) before = filter_map (λ k. booked_since n T x (opened_since T k)) (each w T (issues_on T c.date))
bookings_since w n T x _ before = filter_map (booked_since n T x) before

-- the lines of a record at all places of some accounts
abbrev pub bookings_at : Whose → ℕ → State → Line → List HistoryLine
bookings_at w n S (Ok (Command.Activity x)) =
    let cmd = Command.Activity x in bookings_since w n (next S cmd) x (answer S cmd) (map (stood S) (places w S x))
bookings_at w n S _ = []

-- ---- the lines of what is watched

-- whether the day with the date is open
abbrev pub is_open : State → Day → Bool
is_open S d = is_same_day (date S.opening (journal_of S)) d

-- whether what a record books is booked on the day with the date: what a close books, on the day that it opens
abbrev pub is_on : State → Line → Day → Bool
is_on S (Ok (Command.Activity (Activity.Close next))) d = is_same_day next d
is_on S _ d = is_open S d

-- whether a command can book what is neither a trade's nor a close's
abbrev pub is_movement : Command → Bool
is_movement (Command.Activity (Activity.Deliver m)) = true
is_movement (Command.Activity (Activity.Receive m)) = true
is_movement (Command.Activity (Activity.Split s)) = true
is_movement (Command.Activity (Activity.Exchange x)) = true
is_movement (Command.Activity (Activity.Execute x)) = true
is_movement _ = false

-- the lines of a record that was read as a command, where they are wanted
abbrev pub movements_at : ℕ → State → Line → List HistoryLine
movements_at n S (Ok cmd) = if is_movement cmd then bookings_at Whose.All n S (Ok cmd) else []
movements_at n S _ = []

-- those of a record
abbrev pub lines_of : Watched → ℕ → State → Line → List HistoryLine
lines_of Watched.Nothing n S l = []
lines_of (Watched.Place k) n S l = lines_at k n S l
lines_of (Watched.Bookings w d) n S l = if is_on S l d then bookings_at w n S l else []
lines_of (Watched.Movements d) n S l = if is_open S d then movements_at n S l else []

-- those of records in order, after so many others
unfoldable pub history : Watched → ℕ → State → List Line → List HistoryLine
history w n S [] = []
history w n S (l ∷ ls) = lines_of w (n + 1) S l ++ history w (n + 1) (state_after_line S l) ls

-- what a line booked for an account; None of a close's own line
abbrev pub booking_for : Account → HistoryLine → Option Booking
booking_for a (HistoryLine.Booking b) = if b.account == a then Some b else None
booking_for a (HistoryLine.Closing c) = None
