-- The law of what a close tells, over any list of commands.
use Rattle.std.specs.Prelude.{ℕ, ◌≡◌, List, length, sum_by}
use Rattle.cns_book.specs.Common.{Day, Liables, State, after, answer, batches, journal_of, next, opened, Command, Activity, Reply}
use Rattle.cns_terms.specs.declared.reply.Closed.{Closed}
use Rattle.cns_terms.specs.Sheets.{sheet_at}

-- how many members batches have
abbrev pub liable_in : List Liables → ℕ
liable_in bs = sum_by (λ b. length b.members) bs

-- a close told the date of its day, the rows of the day's sheet and the members of its batches
pub record TellsDay (S : State) (c : Closed) : Type 0 where
  pub date : (sheet_at S.opening (journal_of S) c.day).date ≡ c.date
  pub rows : c.rows ≡ length (sheet_at S.opening (journal_of S) c.day).rows
  pub liable : c.liable ≡ liable_in (batches (journal_of S) c.day)

-- after any commands, a close that is accepted tells this of its day, then and after any more
abbrev pub CloseCounts : Type 0
CloseCounts = (opening : Day) (cmds more : List Command) (d : Day) (c : Closed) →
    let S = after (opened opening) cmds in
    let close = Command.Activity (Activity.Close d) in
    answer S close ≡ Reply.Closed c → TellsDay (after (next S close) more) c
