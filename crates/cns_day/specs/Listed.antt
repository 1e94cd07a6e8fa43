-- What the lists of a page are of.
use Rattle.std.specs.Prelude.{Bool, ◌&&◌, int_lt, pos, ℕ, ◌-◌, ◌==◌, drop, length, ◌^◌, List, ◌++◌, filter, filter_map, map, min, Option, not, option_map, sum_by, count_by, unsigned_abs}
use Rattle.cns_day.specs.Common.{day_number, int_cmp, flat_map, Log, date, row_key, standing, state_of, Day, Liables, Journal, State, is_live, is_not_after, journal_of, notices, stage, Trade, Row, batches_shown, notice_of, Figures, Numbered, Owing, Due, Aged, Close}
use Rattle.std.specs.List.Sorted.{IsPermutation, IsSortedByKey, IsStableByKey}
use Rattle.std.specs.declared.cmp.Ordering.{Ordering}
use Rattle.cns_terms.specs.Common.{sheet_on}
use Rattle.cns_terms.specs.Notices.{Notice}
pub use Rattle.cns_history.specs.Entries.{looked_at}
use Rattle.cns_history.specs.Entries.{trade_of}
use Rattle.cns_terms.specs.declared.history.Taken.{Taken}

-- the second list is the first one in the order of keys: no element is below the one before it, and those that tie stand as they stood
pub record IsInOrderOf {X K : Type 0} (key : X → K) (cmp : K → K → Ordering) (xs ys : List X) : Type 0 where
  pub same : IsPermutation xs ys
  pub rising : IsSortedByKey key cmp ys
  pub stable : IsStableByKey key cmp xs ys

-- ---- the day among others

-- the day that a book's last close opened
abbrev pub next_day : Log → Day
next_day log = date log.opening (journal_of (state_of log))

-- ---- live notices

-- a notice as it stands, with its number
abbrev pub numbered : Journal → Notice → Numbered
numbered J n = record { number = n.number; notice = notice_of J n }

-- the live ones among notices
abbrev pub live_among : Journal → List Notice → List Numbered
live_among J ns = map (numbered J) (filter (λ n. is_live (stage J n)) ns)

-- the live notices, by number
abbrev pub live_shown : State → List Numbered
live_shown S = live_among (journal_of S) (notices (journal_of S))

-- ---- trades that settle later

-- the accepted trades among entries of a history that are dated after a day
abbrev pub later_among : Day → List Taken → List Trade
later_among day ts = filter (λ t. not (is_not_after t.date day)) (filter_map trade_of ts)

-- a trade, with whether it was booked into the next day
abbrev pub due : Day → Trade → Due
due next t = record { trade = t; is_booked = is_not_after t.date next }

-- the accepted trades that settle after a day, by date: those that its close booked into the next day, and those
-- that are pending
abbrev pub AreDue : Log → Day → List Due → Type 0
AreDue log d xs = IsInOrderOf (λ t. day_number t.trade.date) int_cmp (map (due (next_day log)) (later_among d (looked_at log.history))) xs

-- ---- shorts

-- whether a row is a member's, and short at the close
abbrev pub is_short : Row → Bool
is_short r = int_lt r.closing (pos 0) && not (r.account == 0)

-- the members' shorts among rows, with their ages
abbrev pub shorts_among : State → List Row → List Aged
shorts_among S rows = map (λ r. record { row = r; age = (standing S (row_key r)).run }) (filter is_short rows)

-- ---- the list of days

-- the figures of a closed day, where there is a sheet of its date
abbrev pub figures_at : State → Close → Option Figures
figures_at S c = option_map
    (λ s. record {
      day = c.day;
      date = s.date;
      marks = min (sum_by (λ r. unsigned_abs r.mark) s.rows) (2 ^ 128 - 1);
      shorts = min (count_by is_short s.rows) (2 ^ 64 - 1);
    })
    (sheet_on S.opening (journal_of S) c.date)

-- those of closes, in order
abbrev pub figures_shown : State → List Close → List Figures
figures_shown S cs = filter_map (figures_at S) cs

-- ---- liable members

-- the members of a batch of a day, in order
abbrev pub owings_in : ℕ → Liables → List Owing
owings_in day b = map (λ l. record { day = day; issue = b.issue; liable = l }) b.members

-- those of the batches of a day, in order
abbrev pub owing_among : ℕ → List Liables → List Owing
owing_among day bs = flat_map (owings_in day) bs

-- the liable members of the day before and of the day
abbrev pub liable_shown : State → ℕ → List Owing
liable_shown S day = owing_among (day - 1) (batches_shown S (day - 1)) ++ owing_among day (batches_shown S day)

-- the last 60 of closes
abbrev pub last_closes : List Close → List Close
last_closes cs = drop (length cs - 60) cs
