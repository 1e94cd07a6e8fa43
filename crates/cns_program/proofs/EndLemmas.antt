-- How the program ends.
-- For `replay_input` of replaying.rt, `program` of entry.rt.
use Rattle.cns_program.proofs.Common.{◌≡◌, ◌∷◌, ◌++◌, ℕ, List, Option, Some, None, Result, Ok, Err, IfErr, IfSome, OnOk, inl, inr, option_to_list, Appends, Day, Keeps, State, Appends-kept, Keeps-trans, output, state_after, texts, FailsReplay, IsTold, whole}
use Rattle.cns_units.specs.Output.{Writes}
use Rattle.cns_feed.specs.Line.{Line}
use Rattle.cns_feed.specs.Replay.{Leaves, Stops, StopsReplay}
use Rattle.cns_feed.specs.declared.fault.ReplayFault.{ReplayFault}
use Rattle.cns_feed.proofs.PlayLemmas.{stops-end}

-- where a replay stopped whose output could not be flushed then: a record that found no memory was not answered
stops-unflushed : (e : ReplayFault) (old m mid new : Option (List ℕ)) (S : State) (ls answered unread : List Line) (waiting : Option Line)
    → ls ≡ answered ++ (option_to_list waiting ++ unread) → Appends old m (texts S answered) → Leaves e m mid (state_after S answered) waiting → Keeps mid new
    → Stops ReplayFault.Write old new S ls
stops-unflushed e old m mid new S ls answered unread None whole text left kept =
    record { answered = answered; waiting = None; unread = unread; whole = whole; mid = m; written = text; leaves = Keeps-trans m mid new left kept }
stops-unflushed ReplayFault.Write old m mid new S ls answered unread (Some l) whole text left kept =
    record { answered = answered; waiting = Some l; unread = unread; whole = whole; mid = m; written = text; leaves = record { front = left.front; rest = left.rest; whole = left.whole; short = left.short; appended = Appends-kept m mid new left.front left.appended kept } }
stops-unflushed ReplayFault.NoMemory old m mid new S ls answered unread (Some l) whole text left kept =
    record { answered = answered; waiting = None; unread = l ∷ unread; whole = whole; mid = m; written = text; leaves = Keeps-trans m mid new left kept }
stops-unflushed _ old m mid new S ls answered unread _ whole text left kept = absurd left

-- a replay, whatever it came to, whose output could not be flushed then
pub fails-flushing : {T : Type 0} (opening : Day) (input old mid new : Option (List ℕ)) (r : Result T ReplayFault)
    → OnOk r (IfSome input (λ bytes. Appends old mid (output opening bytes))) → IfErr r (λ e. IfSome input (λ bytes. StopsReplay e opening bytes old mid))
    → Keeps mid new → FailsReplay ReplayFault.Write opening input old new
fails-flushing opening None old mid new r text stops kept = record { room = λ is. cc is; stops = tt }
fails-flushing opening (Some bytes) old mid new (Ok s) text stops kept = record { room = λ is. cc is; stops = stops-end old mid new _ _ text kept }
fails-flushing opening (Some bytes) old mid new (Err e) text p kept = record { room = λ is. cc is; stops = stops-unflushed e old p.mid mid new _ _ p.answered p.unread p.waiting p.whole p.written p.leaves kept }

-- what writing a line came to, told without its result
pub told : {T E : Type 0} (old new : Option (List ℕ)) (line : List ℕ) (r : Result T E) → Writes old new line r → IsTold old new line
told old new line (Ok x) h = inl h
told old new line (Err e) h = inr h
