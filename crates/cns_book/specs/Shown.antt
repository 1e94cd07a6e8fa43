-- What the reading calls of a book show.
use Rattle.std.specs.Prelude.{ℕ, suc, zero, List, Option, Some, None, is_none, option_map, slice_get, reverse, if◌then◌else◌}
use Rattle.cns_book.specs.Common.{Cusip, Day, Journal, Liables, Price, State, batches, holding, is_listed, journal, notice_at, price, refusal, remaining, stage, Taken, Holding, Key, Command}
use Rattle.cns_terms.specs.Notices.{Notice as Listed}
use Rattle.cns_retransmit.specs.Days.{batch_in}
use Rattle.cns_book.specs.declared.notice.Notice.{Notice}

-- what stands at a key, where a POSITION is not refused
abbrev pub position_listed : Day → Journal → Key → Option Holding
position_listed opening J k =
    if is_none (refusal opening J (Command.Position k)) then Some (holding J k.account k.issue) else None

-- the same of a state
abbrev pub position_shown : State → Key → Option Holding
position_shown S k = position_listed S.opening (journal S.opening S.accepted) k

-- the price of an issue, where it is listed
abbrev pub price_listed : Journal → Cusip → Option Price
price_listed J c = if is_listed J c then Some (price J c) else None

-- the same of a state
abbrev pub price_shown : State → Cusip → Option Price
price_shown S c = price_listed (journal S.opening S.accepted) c

-- a notice as it stands
abbrev pub notice_of : Journal → Listed → Notice
notice_of J n = record {
  member = n.given.member;
  issue = n.given.issue;
  shares = n.given.shares;
  given = n.given.day;
  stage = stage J n;
  remaining = remaining J n;
}

-- the notice with a number, if there is one
abbrev pub notice_listed : Journal → ℕ → Option Notice
notice_listed J k = option_map (notice_of J) (notice_at J k)

-- the same of a state
abbrev pub notice_shown : State → ℕ → Option Notice
notice_shown S k = notice_listed (journal S.opening S.accepted) k

-- the batches of a day, of a state
abbrev pub batches_shown : State → ℕ → List Liables
batches_shown S n = batches (journal S.opening S.accepted) n

-- the batch of a day in an issue, if anybody is liable there
abbrev pub batch_listed : Journal → ℕ → Cusip → Option Liables
batch_listed J n c = batch_in (batches J n) c

-- the same of a state
abbrev pub batch_shown : State → ℕ → Cusip → Option Liables
batch_shown S n c = batch_listed (journal S.opening S.accepted) n c

-- the entry at a place from 1, of a history whose newest entry is the first
abbrev pub entry_at : List Taken → ℕ → Option Taken
entry_at H zero = None
entry_at H (suc k) = slice_get (reverse H) k
