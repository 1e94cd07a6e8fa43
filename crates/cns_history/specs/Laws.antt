-- The law of a history.
use Rattle.std.specs.Prelude.{◌≡◌, ℤ, pos, List}
use Rattle.cns_history.specs.Common.{Day, opened, total, Key, Line, state_after, HistoryLine, Watched}
use Rattle.cns_history.specs.Lines.{history, standing}

-- the shares that a line books; that of a close has none
abbrev pub shares_of : HistoryLine → ℤ
shares_of (HistoryLine.Booking b) = b.shares
shares_of (HistoryLine.Closing c) = pos 0

-- from nothing on, the shares of the lines of any records add up to the position that they end with
abbrev pub SharesAddUp : Type 0
SharesAddUp = (k : Key) (opening : Day) (ls : List Line) →
    total shares_of (history (Watched.Place k) 0 (opened opening) ls) ≡ (standing (state_after (opened opening) ls) k).now
