-- What contracts see of a book, and what a command does to it.
use Rattle.std.specs.Prelude.{◌≡◌, ℕ, ◌+◌, List, [], ◌∷◌, length}
use Rattle.cns_book.specs.Common.{Day, State, answer, count, Command, Taken, Worker, Rows, Receipt}
use Rattle.cns_terms.specs.History.{state}

-- what a book remembers: its opening date, the most commands that it takes, and its history, the newest first
pub record Log : Type 0 where
  pub opening : Day
  pub limit : ℕ
  pub history : List Taken

-- a book: its log, from which all that it answers follows; the rows of its positions, of zeros too; and for how many entries
-- more its history has room
pub record BookView : Type 0 where
  pub log : Log
  pub rows : Rows
  pub room : ℕ

-- the log of a book that has taken nothing yet
abbrev pub empty_log : Day → ℕ → Log
empty_log opening limit = record { opening = opening; limit = limit; history = [] }

-- the state of the machine after a log's history
abbrev pub state_of : Log → State
state_of b = state b.opening b.history

-- a log with one entry more
abbrev pub with_taken : Log → Taken → Log
with_taken b t = record { opening = b.opening; limit = b.limit; history = t ∷ b.history }

-- a command was taken: the reply is the machine's, and the history has that entry more
pub record TakesStep (old new : Log) (worker : Worker) (command : Command) (receipt : Receipt) : Type 0 where
  pub index : receipt.index ≡ length old.history + 1
  pub seq : receipt.seq ≡ count old.history worker + 1
  pub reply : receipt.reply ≡ answer (state_of old) command
  pub after : new ≡ with_taken old (record { worker = worker; seq = receipt.seq; command = command; reply = receipt.reply })
