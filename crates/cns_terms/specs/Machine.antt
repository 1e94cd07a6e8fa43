-- The machine that keeps only the accepted activities and recomputes.
use Rattle.std.specs.Prelude.{List, [], ◌∷◌, length, ◌+◌, is_none, if◌then◌else◌}
use Rattle.cns_terms.specs.Types.{option_map_or, Day, Activity, Command, Reply}
use Rattle.cns_terms.specs.Postings.{Journal}
use Rattle.cns_terms.specs.Days.{day, date}
use Rattle.cns_terms.specs.Batches.{liable_at}
use Rattle.cns_terms.specs.Entries.{journal}
use Rattle.cns_terms.specs.Fills.{fills}
use Rattle.cns_terms.specs.Holdings.{held_of, holding}
use Rattle.cns_terms.specs.Notices.{notice_at, notices}
use Rattle.cns_terms.specs.Refusals.{refusal}
use Rattle.cns_terms.specs.Sheets.{sheet_named, sheet_rows, statement}

-- the state: the opening date, and the accepted activities, the newest first
pub record State : Type 0 where
  pub opening : Day
  pub accepted : List Activity

-- the journal of a state
abbrev pub journal_of : State → Journal
journal_of S = journal S.opening S.accepted

-- a state in which nothing is accepted yet
abbrev pub opened : Day → State
opened d = record { opening = d; accepted = [] }

-- the reply to an activity that is not refused
abbrev pub activity_reply : Day → Journal → Activity → Reply
activity_reply opening J (Activity.Member m) = Reply.Accepted
activity_reply opening J (Activity.Issue l) = Reply.Accepted
activity_reply opening J (Activity.Trade t) = Reply.Accepted
activity_reply opening J (Activity.Price l) = Reply.Accepted
activity_reply opening J (Activity.Deliver m) = Reply.Accepted
activity_reply opening J (Activity.Receive m) = Reply.Accepted
activity_reply opening J (Activity.Dividend d) = Reply.Accepted
activity_reply opening J (Activity.Split s) = Reply.Accepted
activity_reply opening J (Activity.Exchange x) = Reply.Accepted
activity_reply opening J (Activity.Notice m) = Reply.Noticed (length (notices J) + 1)
activity_reply opening J (Activity.Withdraw k) = Reply.Accepted
activity_reply opening J (Activity.Execute x) = Reply.Executed (option_map_or (λ n. length (fills J x n)) (notice_at J x.notice) 0)
activity_reply opening J (Activity.Close d) = Reply.Closed (record {
  day = day J;
  date = date opening J;
  rows = length (sheet_rows opening J);
  liable = length (liable_at J);
})

-- the reply to a command that is not refused
abbrev pub command_reply : Day → Journal → Command → Reply
command_reply opening J (Command.Activity x) = activity_reply opening J x
command_reply opening J (Command.Position k) = Reply.Held (held_of k (holding J k.account k.issue))
command_reply opening J (Command.Statement a d) = Reply.Stated (statement (sheet_named opening J d) a)

-- the reply to a command over a journal
abbrev pub answer_over : Day → Journal → Command → Reply
answer_over opening J cmd = option_map_or Reply.Refused (refusal opening J cmd) (command_reply opening J cmd)

-- the reply to a command over accepted activities
abbrev pub answer_to : Day → List Activity → Command → Reply
answer_to opening L cmd = answer_over opening (journal opening L) cmd

-- the accepted activities after a command: a refused command and a query change nothing
abbrev pub accepted_after : Day → List Activity → Command → List Activity
accepted_after opening L (Command.Activity x) = if is_none (refusal opening (journal opening L) (Command.Activity x)) then x ∷ L else L
accepted_after opening L (Command.Position k) = L
accepted_after opening L (Command.Statement a d) = L

-- the reply to a command
abbrev pub answer : State → Command → Reply
answer S cmd = answer_to S.opening S.accepted cmd

-- the state after a command
abbrev pub next : State → Command → State
next S cmd = record { opening = S.opening; accepted = accepted_after S.opening S.accepted cmd }

-- the replies to commands, in order
abbrev pub replies : State → List Command → List Reply
replies S [] = []
replies S (cmd ∷ cmds) = answer S cmd ∷ replies (next S cmd) cmds

-- the state after commands, in order
abbrev pub after : State → List Command → State
after S [] = S
after S (cmd ∷ cmds) = after (next S cmd) cmds
