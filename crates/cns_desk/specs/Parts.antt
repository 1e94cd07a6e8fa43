-- When logs are the workers' parts of a history.
use Rattle.std.specs.Prelude.{◌≡◌, ℕ, ◌+◌, ◌-◌, ◌<◌, ◌≤◌, ◌⊎◌, List, length, Option, Some, None, option_map, slice_get, slice_index_or, ⊤}
use Rattle.cns_terms.specs.Common.{DaySheet, arc_value, count, journal_of, sheet_on}
use Rattle.cns_terms.specs.declared.command.Command.{Command}
use Rattle.cns_terms.specs.declared.worker.Worker.{Worker}
use Rattle.cns_book.specs.Log.{Log, state_of}
use Rattle.cns_book.specs.Shown.{entry_at}
use Rattle.cns_desk.specs.Logged.{Logged, empty_logged}
use Rattle.cns_desk.specs.declared.auditing.Mismatch.{Mismatch}
use Rattle.cns_desk.specs.declared.log.LogItem.{LogItem}

-- a sheet that was kept is the book's, of the day that the command states; no sheet fits anywhere
abbrev pub SheetFits : Log → Command → Option DaySheet → Type 0
SheetFits b cmd None = ⊤
SheetFits b (Command.Statement a d) (Some s) = sheet_on b.opening (journal_of (state_of b)) d ≡ Some s
SheetFits b _ (Some s) = ⊥

-- an item is what the history has at the worker's place j, from 1
pub record Fits (b : Log) (w : Worker) (j : ℕ) (i : LogItem) : Type 0 where
  pub seq : i.receipt.seq ≡ j
  pub entry : entry_at b.history i.receipt.index ≡ Some (record { worker = w; seq = j; command = i.command; reply = i.receipt.reply })
  pub sheet : SheetFits b i.command (option_map arc_value i.sheet)

-- a log is the worker's part of the history
pub record IsPart (b : Log) (w : Worker) (items : List LogItem) : Type 0 where
  pub long : length items ≡ count b.history w
  pub each : (j : ℕ) (i : LogItem) → slice_get items j ≡ Some i → Fits b w (j + 1) i

-- both have the place, from 1, and the same there
pub record SameAt (b : Log) (w : Worker) (items : List LogItem) (j : ℕ) : Type 0 where
  pub item : LogItem
  pub is : slice_get items (j - 1) ≡ Some item
  pub inside : j ≤ count b.history w
  pub fits : Fits b w j item

-- the first place, from 1, that differs: a place that only one of the two has differs
pub record DiffersFirst (b : Log) (w : Worker) (items : List LogItem) (j : ℕ) : Type 0 where
  pub place : 1 ≤ j
  pub there : (j ≤ length items) ⊎ (j ≤ count b.history w)
  pub before : (k : ℕ) → 1 ≤ k → k < j → SameAt b w items k
  pub differs : SameAt b w items j → ⊥

-- the log of a worker; a worker without a log has the empty one
abbrev pub part_of : List Logged → Worker → List LogItem
part_of logs w = (slice_index_or logs (w - 1) empty_logged).items

-- each worker's log is its part
abbrev pub AreParts : Log → List Logged → Type 0
AreParts b logs = (w : Worker) → 1 ≤ w → w ≤ 64 → IsPart b w (part_of logs w)

-- the least worker whose log is not its part, and the first place that differs
pub record Mismatches (b : Log) (logs : List Logged) (m : Mismatch) : Type 0 where
  pub worker : (1 ≤ m.worker) × (m.worker ≤ 64)
  pub lower : (w : Worker) → 1 ≤ w → w < m.worker → IsPart b w (part_of logs w)
  pub first : DiffersFirst b m.worker (part_of logs m.worker) m.place
