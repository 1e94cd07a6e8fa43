-- Where a command may give a key a row of the positions, and what one that is refused leaves.
use Rattle.std.specs.Prelude.{◌≡◌, ◌⊎◌, List, [], ◌∷◌, Contains, reverse, Result, Ok, Err}
use Rattle.cns_book.specs.Common.{corporation, journal_of, moved_in, moved_out, pend_of, pending, trade_entries, Command, NoMemory, Key, Refusal, Reply, Rows, has_row, Receipt, Activity}
use Rattle.cns_terms.specs.declared.pend.Pend.{Pend}
use Rattle.cns_actions.specs.DueAmounts.{due_entries}
use Rattle.cns_book.specs.Contents.{Contents}
use Rattle.cns_book.specs.Effects.{places_of}
use Rattle.cns_book.specs.Log.{Log, state_of}
use Rattle.cns_book.specs.declared.receipt.TakeFault.{TakeFault}

-- the trades that wait, in the order in which they were taken
abbrev pub waiting : Log → List Pend
waiting b = reverse (pending b.opening (journal_of (state_of b)))

-- a trade, a delivery: where it books. A split, an exchange: in the issues that it names. A close: where it books those of the
-- waiting trades that are due. All else, a receipt and an execution too, books only where rows are, or nowhere
abbrev pub MayEnter : List Pend → Command → Key → Type 0
MayEnter ps (Command.Activity (Activity.Trade t)) k = Contains (places_of (trade_entries (pend_of t))) k
MayEnter ps (Command.Activity (Activity.Deliver m)) k = Contains (places_of (moved_in m.member m ∷ moved_out corporation m ∷ [])) k
MayEnter ps (Command.Activity (Activity.Split s)) k = k.issue ≡ s.issue
MayEnter ps (Command.Activity (Activity.Exchange x)) k = (k.issue ≡ x.old) ⊎ (k.issue ≡ x.successor)
MayEnter ps (Command.Activity (Activity.Close d)) k = Contains (places_of (due_entries d ps)) k
MayEnter ps _ k = ⊥

-- no other key gets a row, and none loses one
abbrev pub PlacesStay : List Pend → Command → Rows → Rows → Type 0
PlacesStay ps cmd old new = (k : Key) → ¬ MayEnter ps cmd k → has_row new k ≡ has_row old k

-- a refused command changes nothing
abbrev pub StaysIfRefused : Result Reply NoMemory → Contents → Contents → Type 0
StaysIfRefused r old new = (e : Refusal) → r ≡ Ok (Reply.Refused e) → new ≡ old

-- so the rows stay where a command was refused, and where the history was full
abbrev pub KeepsRows : Result Receipt TakeFault → Rows → Rows → Type 0
KeepsRows r old new =
    ((receipt : Receipt) (e : Refusal) → r ≡ Ok receipt → receipt.reply ≡ Reply.Refused e → new ≡ old) × (r ≡ Err TakeFault.Full → new ≡ old)
