-- The texts of exceptions.
use Rattle.std.specs.Prelude.{ℕ, nat_lt, if◌then◌else◌, List, [], ◌∷◌, ◌++◌, Option, None, Some, codes, string_bytes}
use Rattle.cns_exceptions.specs.Common.{decimal, flat_map, option_map_or, day_text, refusal_number, escaped, count_text, piece_text, Accepted, Fact, Finding, Outcome, Refusal, Piece, filled}
use Rattle.cns_terms.specs.declared.buy_in.Stage.{Stage}
use Rattle.cns_book.specs.declared.notice.Notice.{Notice}
use Rattle.cns_feed.specs.Text.{fault_name}
use Rattle.cns_exceptions.specs.declared.exceptions.TheConstants.{EXCHANGED, INVALID, NOTICE, PENDING, POSITION, PRICE, PUT_RIGHT, RECORD, REFUSED, ROOM, SEEN, TODAY, WAITING}

-- how a notice stands
abbrev pub stage_name : Stage → List ℕ
stage_name Stage.Live = codes "live"
stage_name Stage.Withdrawn = codes "withdrawn"
stage_name Stage.Ended = codes "ended by a split or an exchange"
stage_name Stage.Expired = codes "expired"

-- a notice as it stood
abbrev pub notice_text : ℕ → Notice → List ℕ
notice_text n k =
    filled NOTICE.now (decimal n ∷ decimal k.member ∷ escaped k.issue ∷ decimal k.given ∷ stage_name k.stage ∷ count_text k.remaining ∷ count_text k.shares ∷ [])

-- something that a refusal looked at: the open day; a notice; an issue's price; a retired issue and its successor; a position, and what
-- waits beside it; the reference and date of the first trade that is pending; the room
abbrev pub some_fact_text : Fact → List ℕ
some_fact_text (Fact.Today d n) = filled TODAY.now (day_text d ∷ decimal n ∷ [])
some_fact_text (Fact.Notice n k) = notice_text n k
some_fact_text (Fact.Price c p) = filled PRICE.now (escaped c ∷ piece_text (Piece.Price p) ∷ [])
some_fact_text (Fact.Exchanged x) = filled EXCHANGED.now (escaped x.old ∷ escaped x.successor ∷ [])
some_fact_text (Fact.Position k n) = filled POSITION.now (decimal k.account ∷ escaped k.issue ∷ piece_text (Piece.Position n) ∷ [])
some_fact_text (Fact.Waiting w) = filled WAITING.now (count_text w.bought ∷ count_text w.sold ∷ [])
some_fact_text (Fact.Pending p) = filled PENDING.now (decimal p.reference ∷ day_text p.date ∷ [])
some_fact_text (Fact.Room n) = filled ROOM.now (count_text n ∷ [])

abbrev pub fact_text : Option Fact → List ℕ
fact_text None = []
fact_text (Some f) = some_fact_text f

-- why a record is an exception, in some words
abbrev pub reason_text : Outcome → List ℕ → List ℕ
reason_text (Outcome.AtFault f) words = filled INVALID.now (fault_name f ∷ words ∷ [])
reason_text (Outcome.Refused r) words = filled REFUSED.now (decimal (refusal_number r) ∷ words ∷ [])

-- the accepted trade that has a reference: the number of its record, its buyer, shares, issue, seller and date
abbrev pub seen_text : Accepted → List ℕ
seen_text a =
    let t = a.trade in
    filled SEEN.now (decimal t.reference ∷ decimal a.number ∷ decimal t.buyer ∷ count_text t.shares ∷ escaped t.issue ∷ decimal t.seller ∷ day_text t.date ∷ [])

-- the record that put the one with a number right, where it comes after it
abbrev pub put_right_text : ℕ → Accepted → List ℕ
put_right_text n a = if nat_lt n a.number then filled PUT_RIGHT.now (decimal a.number ∷ []) else []

-- the accepted trade, where the record was refused for its reference; else, if it came later, the record that put this one right
abbrev pub some_accepted_text : ℕ → Outcome → Accepted → List ℕ
some_accepted_text n (Outcome.Refused Refusal.SeenReference) a = seen_text a
some_accepted_text n _ a = put_right_text n a

abbrev pub accepted_text : Finding → List ℕ
accepted_text f = option_map_or (some_accepted_text f.record f.outcome) f.accepted []

-- an exception's number and its text, escaped
abbrev pub record_text : Finding → List ℕ
record_text f = filled RECORD.now (decimal f.record ∷ escaped (string_bytes f.text) ∷ [])

-- an exception: its number, its text, why it is one, what decided it, and the accepted trade that has its reference
abbrev pub finding_text : Finding → List ℕ
finding_text f =
    record_text f ++ (reason_text f.outcome f.words.now ++ (flat_map fact_text f.facts ++ (accepted_text f ++ 10 ∷ [])))
