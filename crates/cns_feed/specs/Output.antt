-- What a replay makes of lines: their responses and the text that is written.
use Rattle.std.specs.Prelude.{◌≡◌, ℕ, ◌+◌, Bool, true, false, count_by, map, List, [], ◌∷◌, ◌++◌, Ok, Err}
use Rattle.cns_feed.specs.Common.{Day, State, answer, batches, journal_of, next, opened, rows_for, records, default_config, strip_bom, Reply, rows_text, Summary}
use Rattle.cns_terms.specs.declared.reply.Stated.{Stated}
use Rattle.cns_terms.specs.declared.sheet.Row.{Row}
use Rattle.cns_terms.specs.Sheets.{sheet_named}
use Rattle.cns_feed.specs.Line.{Line, line_of}
use Rattle.cns_feed.specs.Text.{batches_text, reply_line, fault_line}
use Rattle.cns_feed.specs.declared.response.Response.{Response}

-- the lines of an input, after a byte order mark where there is one
abbrev pub lines_of : List ℕ → List Line
lines_of input = map line_of (records default_config (strip_bom input))

-- what a line comes to in a state
abbrev pub response_of : State → Line → Response
response_of S (Ok cmd) = Response.Replied (answer S cmd)
response_of S (Err f) = Response.AtFault f

-- the state after a line; an invalid one changes nothing
abbrev pub state_after_line : State → Line → State
state_after_line S (Ok cmd) = next S cmd
state_after_line S (Err f) = S

-- the rows of a statement: the account's, on the sheet of the closed day with the date
abbrev pub rows_stated : State → Stated → List Row
rows_stated S s = rows_for (sheet_named S.opening (journal_of S) s.date).rows s.account

-- what follows the first line of a reply, in the state after it: the liable members of the day that a close ended, or a
-- statement's rows
abbrev pub rest_text : State → Reply → List ℕ
rest_text S (Reply.Closed c) = batches_text (batches (journal_of S) c.day)
rest_text S (Reply.Stated s) = rows_text (rows_stated S s)
rest_text S _ = []

-- what is written for an response, in the state after it
abbrev pub response_text : State → Response → List ℕ
response_text S (Response.Replied r) = reply_line r ++ rest_text S r
response_text S (Response.AtFault f) = fault_line f

-- what is written for a line in a state
abbrev pub line_text : State → Line → List ℕ
line_text S l = response_text (state_after_line S l) (response_of S l)

-- the state after lines, in order
unfoldable pub state_after : State → List Line → State
state_after S [] = S
state_after S (l ∷ ls) = state_after (state_after_line S l) ls

-- what lines come to, in order
unfoldable pub responses : State → List Line → List Response
responses S [] = []
responses S (l ∷ ls) = response_of S l ∷ responses (state_after_line S l) ls

-- what is written for lines, in order
unfoldable pub texts : State → List Line → List ℕ
texts S [] = []
texts S (l ∷ ls) = line_text S l ++ texts (state_after_line S l) ls

-- all that a replay writes for an input, from the opening date on
abbrev pub output : Day → List ℕ → List ℕ
output opening input = texts (opened opening) (lines_of input)

-- whether a record was a command
abbrev pub is_command : Response → Bool
is_command (Response.Replied r) = true
is_command (Response.AtFault f) = false

-- whether a record was invalid
abbrev pub is_at_fault : Response → Bool
is_at_fault (Response.Replied r) = false
is_at_fault (Response.AtFault f) = true

-- whether a reply is that of an accepted close
abbrev pub is_closed : Reply → Bool
is_closed (Reply.Closed c) = true
is_closed _ = false

-- whether a record was a close that was accepted
abbrev pub is_accepted_close : Response → Bool
is_accepted_close (Response.Replied r) = is_closed r
is_accepted_close (Response.AtFault f) = false

-- a summary with responses added: how many were commands, invalid, and accepted closes
pub record Adds (old new : Summary) (os : List Response) : Type 0 where
  pub commands : new.commands ≡ old.commands + count_by is_command os
  pub lines : new.lines ≡ old.lines + count_by is_at_fault os
  pub closes : new.closes ≡ old.closes + count_by is_accepted_close os

-- a summary of nothing
abbrev pub no_counts : Summary
no_counts = record { commands = 0; lines = 0; closes = 0 }

-- a summary of responses
abbrev pub Counts : Summary → List Response → Type 0
Counts s os = Adds no_counts s os
