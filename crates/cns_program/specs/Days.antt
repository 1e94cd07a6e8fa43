-- The statements of a day, as the program writes them.
use Rattle.std.specs.Prelude.{◌≡◌, ℕ, List, Option, None, MatchOption, flat_map}
use Rattle.cns_program.specs.Common.{Appends, Day, DaySheet, journal_of, sheet_on, Log, state_of, lines_of, blank_log, log_after, Fault}
use Rattle.std.specs.declared.alloc.Global.{Global}
use Rattle.cns_statements.specs.Packs.{statements_of}
use Rattle.cns_statements.specs.Texts.{statement_text}
use Rattle.cns_statements.specs.declared.contents.Statement.{Statement}
use Rattle.cns_program.specs.Lines.{IsTold}

-- the text of one statement
abbrev pub text_of_one : Statement Global → List ℕ
text_of_one s = statement_text s.account s.date s.rows s.mark s.dividend

-- the texts of statements, in order
abbrev pub statements_text : List (Statement Global) → List ℕ
statements_text ss = flat_map text_of_one ss

-- the book after the records of an input
abbrev pub loaded : Day → List ℕ → Log
loaded opening bytes = log_after (blank_log opening) (lines_of bytes)

-- the sheet that a book has for a day
abbrev pub sheet_of : Log → Day → Option DaySheet
sheet_of b day = sheet_on b.opening (journal_of (state_of b)) day

-- the day is closed, and the statements of all accounts with a row were written
abbrev pub WritesDay : Log → Day → Option (List ℕ) → Option (List ℕ) → Type 0
WritesDay b day old new = MatchOption (sheet_of b day) ⊥ (λ s. Appends old new (statements_text (statements_of s)))

-- they were not: nothing was written, or, where writing failed, a prefix of them
abbrev pub FailsDay : Fault → Log → Day → Option (List ℕ) → Option (List ℕ) → Type 0
FailsDay Fault.Read b day old new = new ≡ old
FailsDay Fault.Write b day old new = MatchOption (sheet_of b day) ⊥ (λ s. IsTold old new (statements_text (statements_of s)))
FailsDay Fault.NoMemory b day old new = new ≡ old
FailsDay Fault.Spawn b day old new = new ≡ old
FailsDay Fault.NoSuchDay b day old new = (new ≡ old) × (sheet_of b day ≡ None)
FailsDay _ b day old new = ⊥
