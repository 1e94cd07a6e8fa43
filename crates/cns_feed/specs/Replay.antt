-- What a replay does to its book, and where it stops.
use Rattle.std.specs.Prelude.{◌≡◌, ℕ, ◌+◌, ◌-◌, ◌^◌, ◌≤◌, List, [], ◌∷◌, ◌++◌, length, Option, Some, None, Ok, Err, option_to_list}
use Rattle.cns_feed.specs.Common.{Appends, AppendsFront, Day, Keeps, State, answer, count, opened, Command, ReplayFault, Summary}
use Rattle.cns_book.specs.Log.{Log, empty_log, state_of, with_taken}
use Rattle.cns_book.specs.declared.receipt.TakeFault.{TakeFault}
use Rattle.cns_feed.specs.Line.{Line}
use Rattle.cns_feed.specs.Output.{line_text, lines_of, state_after, texts}

-- what it is to a replay that a command was not taken
abbrev pub fault_of_take : TakeFault → ReplayFault
fault_of_take TakeFault.Full = ReplayFault.Full
fault_of_take TakeFault.NoMemory = ReplayFault.NoMemory

-- what a fault at a record leaves of its text: a front that is not all of it, or nothing; no other fault comes at a record
abbrev pub LeavesAt : ReplayFault → Option (List ℕ) → Option (List ℕ) → List ℕ → Type 0
LeavesAt ReplayFault.Write old new text = AppendsFront old new text
LeavesAt ReplayFault.NoMemory old new text = Keeps old new
LeavesAt ReplayFault.Read old new text = ⊥
LeavesAt ReplayFault.Full old new text = ⊥

-- what a fault leaves of the record that waits for its reply, in the state before it; nothing where none waits
abbrev pub Leaves : ReplayFault → Option (List ℕ) → Option (List ℕ) → State → Option Line → Type 0
Leaves e old new S None = Keeps old new
Leaves e old new S (Some l) = LeavesAt e old new (line_text S l)

-- where a replay stops: the records that got their replies, the one that was read and waits, and those that were not read
pub record Stops (e : ReplayFault) (old new : Option (List ℕ)) (first : State) (lines : List Line) : Type 0 where
  pub answered : List Line
  pub waiting : Option Line
  pub unread : List Line
  pub whole : lines ≡ answered ++ (option_to_list waiting ++ unread)
  pub mid : Option (List ℕ)
  pub written : Appends old mid (texts first answered)
  pub leaves : Leaves e mid new (state_after first answered) waiting

-- where the replay of an input stops that opens on the date
abbrev pub StopsReplay : ReplayFault → Day → List ℕ → Option (List ℕ) → Option (List ℕ) → Type 0
StopsReplay e opening input old new = Stops e old new (opened opening) (lines_of input)

-- a book after a line: a command is the first worker's, and brings one entry more, with the machine's reply; an invalid line changes
-- nothing
abbrev pub log_after_line : Log → Line → Log
log_after_line b (Ok cmd) = with_taken b (record { worker = 1; seq = count b.history 1 + 1; command = cmd; reply = answer (state_of b) cmd })
log_after_line b (Err f) = b

-- a book after lines, in order
unfoldable pub log_after : Log → List Line → Log
log_after b [] = b
log_after b (l ∷ ls) = log_after (log_after_line b l) ls

-- a book that has taken nothing yet, with the greatest limit
abbrev pub blank_log : Day → Log
blank_log opening = empty_log opening (2 ^ 32 - 1)

-- a book has room for so many commands more
abbrev pub HasRoomFor : Log → ℕ → Type 0
HasRoomFor b n = length b.history + n ≤ b.limit

-- a summary of at most so many records
pub record IsUpTo (s : Summary) (n : ℕ) : Type 0 where
  pub commands : s.commands ≤ n
  pub lines : s.lines ≤ n
  pub closes : s.closes ≤ n
