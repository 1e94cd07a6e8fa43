-- The texts of replies and of invalid records.
use Rattle.std.specs.Prelude.{ℕ, ◌∷◌, [], List, codes, decimal, flat_map}
use Rattle.cns_feed.specs.Common.{Cusip, Liables, cents_text, text_line, day_text, Reply, stated_line, LineFault}
use Rattle.std.specs.Fmt.{signed_decimal}
use Rattle.cns_terms.specs.Numbers.{refusal_number}
use Rattle.cns_terms.specs.declared.buy_in.Liable.{Liable}
use Rattle.cns_terms.specs.declared.refusal.Refusal.{Refusal}
use Rattle.cns_terms.specs.declared.reply.Closed.{Closed}
use Rattle.cns_terms.specs.declared.reply.Held.{Held}

-- `notice NUMBER`
abbrev pub noticed_line : ℕ → List ℕ
noticed_line number = text_line (codes "notice") (decimal number ∷ [])

-- `executed MEMBERS`
abbrev pub executed_line : ℕ → List ℕ
executed_line members = text_line (codes "executed") (decimal members ∷ [])

-- `closed DAY DATE ROWS LIABLE`
abbrev pub closed_line : Closed → List ℕ
closed_line c = text_line (codes "closed") (decimal c.day ∷ day_text c.date ∷ decimal c.rows ∷ decimal c.liable ∷ [])

-- `position ACCOUNT CUSIP NOW OPENING CONTRACT RUN`
abbrev pub held_line : Held → List ℕ
held_line h =
    text_line (codes "position") (decimal h.key.account ∷ h.key.issue ∷ signed_decimal h.position ∷ signed_decimal h.opening ∷ cents_text h.contract ∷ decimal h.age ∷ [])

-- what is written after a refusal's number: the live notice's number, or the room
abbrev pub refusal_detail : Refusal → List (List ℕ)
refusal_detail (Refusal.AlreadyNoticed notice) = decimal notice ∷ []
refusal_detail (Refusal.NotLiable room) = decimal room ∷ []
refusal_detail _ = []

-- `refused NUMBER`, and the detail where there is one
abbrev pub refused_line : Refusal → List ℕ
refused_line r = text_line (codes "refused") (decimal (refusal_number r) ∷ refusal_detail r)

-- the first line of a reply
abbrev pub reply_line : Reply → List ℕ
reply_line Reply.Accepted = text_line (codes "ok") []
reply_line (Reply.Noticed n) = noticed_line n
reply_line (Reply.Executed n) = executed_line n
reply_line (Reply.Closed c) = closed_line c
reply_line (Reply.Held h) = held_line h
reply_line (Reply.Stated s) = stated_line s
reply_line (Reply.Refused r) = refused_line r

-- `liable CUSIP MEMBER SHARES AGE` of a member that is liable in an issue: its short at the close, and the age of that short
abbrev pub liable_line : Cusip → Liable → List ℕ
liable_line c l = text_line (codes "liable") (c ∷ decimal l.member ∷ decimal l.closing ∷ decimal l.age ∷ [])

-- a line for each member of a batch, in the order of filling
abbrev pub batch_text : Liables → List ℕ
batch_text b = flat_map (liable_line b.issue) b.members

-- the lines of each batch
abbrev pub batches_text : List Liables → List ℕ
batches_text bs = flat_map batch_text bs

-- the name of a line fault
abbrev pub fault_name : LineFault → List ℕ
fault_name LineFault.Kind = codes "Kind"
fault_name LineFault.Count = codes "Count"
fault_name LineFault.Number = codes "Number"
fault_name LineFault.Date = codes "Date"
fault_name LineFault.Cusip = codes "Cusip"
fault_name LineFault.Range = codes "Range"
fault_name LineFault.NoMemory = codes "NoMemory"

-- `line KIND` of an invalid record
abbrev pub fault_line : LineFault → List ℕ
fault_line f = text_line (codes "line") (fault_name f ∷ [])
