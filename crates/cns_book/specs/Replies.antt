-- How a history keeps its entries: replies other than 'accepted' stand in a list of their own.
use Rattle.std.specs.Prelude.{◌≡◌, ◌<◌, ℕ, List, Option, Some, None, length, map, slice_get, unwrap_or}
use Rattle.cns_book.specs.Common.{Taken, Reply}
use Rattle.std.specs.List.{AllByRecursion}
use Rattle.cns_book.specs.declared.history.Brief.{Brief}

-- what contracts see of a history: its entries, the oldest first, and for how many more it has room
pub record HistoryView : Type 0 where
  pub taken : List Taken
  pub room : ℕ

-- the reply at a place among others; 'accepted' where there is no place
abbrev pub reply_in : List Reply → Option ℕ → Reply
reply_in rs None = Reply.Accepted
reply_in rs (Some k) = unwrap_or (slice_get rs k) Reply.Accepted

-- an entry with its reply
abbrev pub taken_in : List Reply → Brief → Taken
taken_in rs b = record { worker = b.worker; seq = b.seq; command = b.command; reply = reply_in rs b.place }

-- a reply stands at the place, if it is one
abbrev pub IsAmong : List Reply → Option ℕ → Type 0
IsAmong rs None = Unit {0}
IsAmong rs (Some k) = k < length rs

-- the replies of all entries are there
abbrev pub AreAmong : List Reply → List Brief → Type 0
AreAmong rs bs = AllByRecursion (λ b. IsAmong rs b.place) bs

-- entries that were there keep their replies
abbrev pub Stays : List Reply → List Reply → Type 0
Stays old new = (bs : List Brief) → AreAmong old bs → AreAmong new bs × (map (taken_in new) bs ≡ map (taken_in old) bs)
