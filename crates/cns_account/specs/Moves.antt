-- What moved positions on a day, by cause.
use Rattle.std.specs.Prelude.{◌≡◌, ℤ, pos, ◌+ℤ◌, Bool, true, not, ◌&&◌, if◌then◌else◌, List, Option, Some, None, option_and_then, unwrap_or}
use Rattle.cns_account.specs.Common.{int_wrap, w128, w64, fold, option_map_or, is_eq, Day, is_not_after, Activity, Taken, Key, Booking, HistoryLine, DayMoves, Moved, Moves}
use Rattle.std.specs.BTreeMap.{get}
use Rattle.cns_terms.specs.Entries.{trade_entries}
use Rattle.cns_terms.specs.Keys.{key_cmp}
use Rattle.cns_terms.specs.Pending.{pend_of}
use Rattle.cns_terms.specs.declared.command.Trade.{Trade}
use Rattle.cns_terms.specs.declared.holding.Entry.{Entry}
use Rattle.cns_history.specs.Entries.{trade_of}

-- nothing
abbrev pub nothing : Moved
nothing = record { shares = pos 0; cents = pos 0 }

-- shares and cents more, as much of the sums as fits
abbrev pub with_more : Moved → ℤ → ℤ → Moved
with_more m shares cents = record { shares = int_wrap w64 (m.shares +ℤ shares); cents = int_wrap w128 (m.cents +ℤ cents) }

-- nothing moved
abbrev pub unmoved : Moves
unmoved = record { trades = nothing; delivered = nothing; received = nothing; actions = nothing; buy_ins = nothing }

-- ---- trades that settle

-- whether a date is one of those after the day before, if there was one, up to the day
abbrev pub is_within : Option Day → Day → Day → Bool
is_within before day d = is_not_after d day && option_map_or (λ b. not (is_not_after d b)) before true

-- the trade of an entry of the history that settles on the day, where it was accepted
abbrev pub settled_by : Option Day → Day → Taken → Option Trade
settled_by before day t = option_and_then (λ x. if is_within before day x.date then Some x else None) (trade_of t)

-- what a side of a trade books, at a place
abbrev pub with_entry : Key → Moves → Entry → Moves
with_entry k m e =
    if is_eq (key_cmp (record { account = e.account; issue = e.issue }) k) then record m { trades = with_more m.trades e.shares e.cents } else m

-- what both book
abbrev pub with_trade : Key → Moves → Trade → Moves
with_trade k m t = fold (with_entry k) m (trade_entries (pend_of t))

-- an entry of the history, where a trade of it settles on the day
abbrev pub with_taken : Option Day → Day → Key → Moves → Taken → Moves
with_taken before day k m t = option_map_or (with_trade k m) (settled_by before day t) m

-- ---- what other records book

-- a booking, by its cause: deliveries, receipts, splits and exchanges, buy-ins; trades are told by the history
abbrev pub of_cause : Moves → Booking → Activity → Moves
of_cause m b (Activity.Deliver x) = record m { delivered = with_more m.delivered b.shares b.cents }
of_cause m b (Activity.Receive x) = record m { received = with_more m.received b.shares b.cents }
of_cause m b (Activity.Split s) = record m { actions = with_more m.actions b.shares b.cents }
of_cause m b (Activity.Exchange x) = record m { actions = with_more m.actions b.shares b.cents }
of_cause m b (Activity.Execute x) = record m { buy_ins = with_more m.buy_ins b.shares b.cents }
of_cause m b _ = m

-- the same at a place
abbrev pub with_booking : Key → Moves → Booking → Moves
with_booking k m b = if is_eq (key_cmp (record { account = b.account; issue = b.issue }) k) then of_cause m b b.activity else m

-- a line, where it is a booking
abbrev pub with_line : Key → Moves → HistoryLine → Moves
with_line k m (HistoryLine.Booking b) = with_booking k m b
with_line k m (HistoryLine.Closing x) = m

-- ---- the day

-- what moved the position at a place on a day: the trades that settled, of entries of the history, and what lines booked
abbrev pub moved_at : Option Day → Day → List Taken → List HistoryLine → Key → Moves
moved_at before day ts ls k = fold (with_line k) (fold (with_taken before day k) unmoved ts) ls

-- what moved the position at a place, of what moved each
abbrev pub moves_at : DayMoves → Key → Moves
moves_at ms k = unwrap_or (get key_cmp ms.moves k) unmoved

-- what moved each position on a day
abbrev pub AreMoves : Option Day → Day → List Taken → List HistoryLine → DayMoves → Type 0
AreMoves before day ts ls ms = (k : Key) → moves_at ms k ≡ moved_at before day ts ls k
