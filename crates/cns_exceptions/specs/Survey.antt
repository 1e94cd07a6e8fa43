-- What is known of the records of an input: which of them are exceptions.
use Rattle.std.specs.Prelude.{◌≡◌, ℕ, ◌+◌, ◌-◌, ◌^◌, ◌==◌, ◌||◌, Bool, false, List, [], ◌∷◌, ◌++◌, if◌then◌else◌, not, option_and_then, length, map, min, nat_lt, take, true, Option, Some, None, Ok, Err}
use Rattle.cns_exceptions.specs.Common.{option_map_or, Account, Day, State, answer, opened, Command, Reply, Log, state_of, Line, state_after_line, blank_log, log_after, log_after_line, history, HistoryLine, Watched, Accepted, Exchange, Finding, Outcome, Played, Survey, Activity, Taken}
use Rattle.cns_feed.specs.Records.{IsReady, Pending}
use Rattle.cns_feed.specs.declared.records.Records.{Records}
use Rattle.cns_history.specs.Entries.{accepted_of, looked_at}
use Rattle.cns_history.specs.Lines.{lines_of}
use Rattle.cns_account.specs.Past.{date_told}
use Rattle.cns_terms.specs.Common.{exchanged}
use Rattle.cns_terms.specs.Dividends.{declared}
use Rattle.cns_terms.specs.declared.action.Declared.{Declared}
use Rattle.std.specs.List.{cons_option}
use Rattle.cns_exceptions.specs.Accepted.{or_first}

-- an exception: the number of its record, from 1, why it is one, the reference of a trade, and the accepted trade that has it
pub record Exception : Type 0 where
  pub number : ℕ
  pub why : Outcome
  pub reference : Option ℕ
  pub accepted : Option Accepted

-- what is known of records: how many there are, how many of them are exceptions, the numbers of the invalid ones, and the dates of
-- the closed days, the accepted exchanges and the accepted dividends; and of those that are looked at, which come after so many others, the exceptions' reasons, and the first 200 of these that are no questions, and the
-- first 200 that are
pub record Known : Type 0 where
  pub from : ℕ
  pub records : ℕ
  pub exceptions : ℕ
  pub reasons : List Outcome
  pub first : List Exception
  pub questions : List Exception
  pub invalid : List ℕ
  pub days : List Day
  pub exchanges : List Exchange
  pub dividends : List Declared

-- of no records
abbrev pub nothing : ℕ → Known
nothing from = record { from = from; records = 0; exceptions = 0; reasons = []; first = []; questions = []; invalid = []; days = []; exchanges = []; dividends = [] }

-- one record more
abbrev pub counted : Known → Known
counted k = record k { records = k.records + 1 }

-- an invalid one more
abbrev pub one_invalid : Known → Known
one_invalid k = record k { invalid = k.invalid ++ k.records ∷ [] }

-- the reference of a trade
abbrev pub reference_of : Command → Option ℕ
reference_of (Command.Activity (Activity.Trade t)) = Some t.reference
reference_of _ = None

-- whether a command is a question
abbrev pub is_question : Command → Bool
is_question (Command.Activity x) = false
is_question _ = true

-- one more, where it is one of the first 200
abbrev pub with_first : List Exception → Exception → List Exception
with_first es e = if nat_lt (length es) 200 then es ++ e ∷ [] else es

-- an exception more, of a command, if it was one; where it is looked at its reason too, and what is told of it
abbrev pub wanted : Known → Outcome → Option Command → Known
wanted k w cmd =
    let more = record k { exceptions = min (k.exceptions + 1) (2 ^ 64 - 1); reasons = k.reasons ++ w ∷ [] } in
    let told : Exception = record { number = k.records; why = w; reference = option_and_then reference_of cmd; accepted = None } in
    if not (nat_lt k.from k.records) then record k { exceptions = min (k.exceptions + 1) (2 ^ 64 - 1) }
    else if option_map_or is_question cmd false then record more { questions = with_first k.questions told }
    else record more { first = with_first k.first told }

-- the questions behind the others, so that there are 200 at most
abbrev pub ranked : Known → Known
ranked k = record k { first = k.first ++ take (200 - length k.first) k.questions; questions = [] }

-- an exception with the accepted trade of a history that has its reference, by the numbers of the invalid records
abbrev pub looked_for : List ℕ → List Taken → Exception → Exception
looked_for invalid ts e = record e { accepted = or_first invalid 0 ts e.reference e.accepted }

-- the first ones with theirs
abbrev pub looked_back : List Taken → Known → Known
looked_back H k = record k { first = map (looked_for k.invalid (looked_at H)) k.first }

-- what the reply to a command tells of closed days, exchanges and dividends
abbrev pub with_past : Known → Command → Reply → Known
with_past k cmd r = record k {
  days = k.days ++ cons_option (date_told r) [];
  exchanges = k.exchanges ++ cons_option (accepted_of exchanged cmd r) [];
  dividends = k.dividends ++ cons_option (accepted_of declared cmd r) [];
}

-- where it is a refusal, the exception
abbrev pub if_refused : Known → Command → Reply → Known
if_refused k cmd (Reply.Refused r) = wanted k (Outcome.Refused r) (Some cmd)
if_refused k cmd _ = k

-- all that it tells
abbrev pub replied : Known → Command → Reply → Known
replied k cmd r = if_refused (with_past k cmd r) cmd r

-- what it tells, in the state before it
abbrev pub told_by : Known → State → Line → Known
told_by k S (Ok cmd) = replied k cmd (answer S cmd)
told_by k S (Err f) = wanted (one_invalid k) (Outcome.AtFault f) None

-- one record more, and what it tells
abbrev pub noted : Known → State → Line → Known
noted k S l = told_by (counted k) S l

-- the same of records in order
unfoldable pub noted_all : Known → State → List Line → Known
noted_all k S [] = k
noted_all k S (l ∷ ls) = noted_all (noted k S l) (state_after_line S l) ls

-- a finding without its text and what decided it
abbrev pub told : Finding → Exception
told f = record { number = f.record; why = f.outcome; reference = f.named.reference; accepted = f.accepted }

-- whether a refused record names an account
abbrev pub names : Account → Finding → Bool
names a f = option_map_or (λ b. b == a) f.named.account false || option_map_or (λ b. b == a) f.named.other false

-- what a survey knows
abbrev pub known : Survey → Known
known s = record {
  from = s.from;
  records = s.records;
  exceptions = s.exceptions;
  reasons = s.reasons.items;
  first = map told s.findings.items;
  questions = map told s.questions.items;
  invalid = s.invalid.items;
  days = s.past.days.items;
  exchanges = s.past.exchanges.items;
  dividends = s.past.dividends.items;
}

-- the first of some lines was taken and noted, and the lines of what is watched were added; the others are left
pub record Takes {R : Type 0} (rem : R → Option (List ℕ)) (now : Records R) (w : Watched) (before after : Log) (s t : Survey) (old new : List HistoryLine) (all : List Line) : Type 0 where
  pub line : Line
  pub rest : List Line
  pub first : all ≡ line ∷ rest
  pub left : Pending rem now rest
  pub log : after ≡ log_after_line before line
  pub knows : known t ≡ noted (known s) (state_of before) line
  pub told : new ≡ old ++ lines_of w (s.records + 1) (state_of before) line

-- what a read did to records, a book, a survey and the lines of what is watched: where no line was left, nothing; else the next line was
-- taken and noted
abbrev pub Steps : {R : Type 0} → (R → Option (List ℕ)) → Records R → Records R → Watched → Log → Log → Survey → Survey → List HistoryLine → List HistoryLine → Bool → Type 0
Steps rem a b w before after s t old new true = (after ≡ before) × (t ≡ s) × (new ≡ old) × ((all : List Line) → Pending rem a all → all ≡ [])
Steps rem a b w before after s t old new false =
    IsReady b × (t.records ≡ s.records + 1) × ((all : List Line) → Pending rem a all → Takes rem b w before after s t old new all)

-- what came of lines that were taken and noted, in order
pub record Came (w : Watched) (first now : Log) (from : Known) (s : Survey) (told : List HistoryLine) (lines : List Line) : Type 0 where
  pub log : now ≡ log_after first lines
  pub knows : known s ≡ noted_all from (state_of first) lines
  pub tells : told ≡ history w 0 (state_of first) lines

-- what was played of lines on a book that opens on a date, those after the first so many looked at, with something that was watched
pub record ComesTo (opening : Day) (from : ℕ) (w : Watched) (lines : List Line) (p : Played) : Type 0 where
  pub log : p.book.log ≡ log_after (blank_log opening) lines
  pub knows : known p.survey ≡ looked_back p.book.log.history (ranked (noted_all (nothing from) (opened opening) lines))
  pub tells : p.lines.items ≡ history w 0 (opened opening) lines
