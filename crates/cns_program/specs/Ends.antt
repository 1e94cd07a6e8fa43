-- How the program ends, by what its line asks for.
use Rattle.std.specs.Prelude.{◌≡◌, ◌≢◌, ◌⊎◌, ℕ, ◌-◌, ◌^◌, true, List, [], ◌∷◌, length, Option, Some, option_map, Result, IfSome, vec_len, ⊤}
use Rattle.cns_program.specs.Common.{AllByRecursion, Appends, Day, Told, lines_of, output, StopsReplay, End, Fault, Asked}
use Rattle.cns_units.specs.Output.{Writes}
use Rattle.cns_feed.specs.declared.fault.ReplayFault.{ReplayFault}
use Rattle.cns_feed.specs.Source.{told_of}
use Rattle.cns_desk.specs.Parts.{AreParts}
use Rattle.cns_desk.specs.Worked.{HaveRun}
use Rattle.cns_desk.specs.declared.run.Outcome.{Outcome}
use Rattle.cns_shell.specs.Faults.{fault_line, of_replay}
use Rattle.cns_program.specs.Faults.{IsOfRun}
use Rattle.cns_program.specs.Lines.{IsTold, end_lines}
use Rattle.cns_program.specs.Days.{FailsDay, WritesDay, loaded}
use Rattle.cns_program.specs.Tally.{tally_line}

-- a replay that opens on the date failed with the fault, which is not that its book was full
pub record FailsReplay (f : ReplayFault) (opening : Day) (input old new : Option (List ℕ)) : Type 0 where
  pub room : f ≢ ReplayFault.Full
  pub stops : IfSome input (λ bytes. StopsReplay f opening bytes old new)

-- all workers came to the ends of their sources
abbrev pub AreComplete : List End → Type 0
AreComplete = AllByRecursion (λ e. e ≡ End.Complete)

-- the tally of an outcome
abbrev pub text_of : Outcome → List ℕ
text_of o = tally_line o.book.log o.logs.items

-- the tally was not written whole: it could not be made, and nothing was written, or writing it failed
abbrev pub FailsTally : Fault → Outcome → Option (List ℕ) → Option (List ℕ) → Type 0
FailsTally Fault.NoMemory o old new = new ≡ old
FailsTally Fault.Write o old new = IsTold old new (text_of o)
FailsTally _ o old new = ⊥

-- a worker ended early: the tally was written, and the lines of such workers are told
pub record EndsEarly {T E : Type 0} (o : Outcome) (old new told_old told_new : Option (List ℕ)) (told : Result T E) : Type 0 where
  pub early : AreComplete o.ends.items → ⊥
  pub tally : Appends old new (text_of o)
  pub lines : Writes told_old told_new (end_lines 1 o.ends.items) told

-- what a worker is told by a file: the commands of the bytes that it had when it was opened, up to the most records that one
-- worker reads; None where the bytes are not known
abbrev pub told_by : {F : Type 0} → (F → Option (List ℕ)) → F → Option Told
told_by rem file = option_map (λ bytes. told_of (2 ^ 32 - 1) (lines_of bytes)) (rem file)

-- a source tells what its file does, where that is known
abbrev pub Reads : {F : Type 0} → (F → Option (List ℕ)) → F → Option Told → Type 0
Reads rem file told = IfSome (rem file) (λ bytes. told ≡ Some (told_of (2 ^ 32 - 1) (lines_of bytes)))

-- sources tell what files do, each its own, in order
abbrev pub ReadEach : {S F : Type 0} → (S → Option Told) → (F → Option (List ℕ)) → List S → List F → Type 0
ReadEach told rem [] [] = ⊤
ReadEach told rem (s ∷ ss) (f ∷ fs) = Reads rem f (told s) × ReadEach told rem ss fs
ReadEach told rem [] (f ∷ fs) = ⊥
ReadEach told rem (s ∷ ss) [] = ⊥

-- an outcome of a run over so many files, of which the first argument says what they have: each worker's log has what its file
-- told up to where the worker ended, and is its part of the history
pub record IsOutcome {F : Type 0} (rem : F → Option (List ℕ)) (files : ℕ) (o : Outcome) : Type 0 where
  pub opened : List F
  pub each : length opened ≡ files
  pub ran : HaveRun true (told_by rem) opened o.logs.items o.ends.items
  pub parts : AreParts o.book.log o.logs.items

-- a run over so many files was done, and its tally was written
abbrev pub IsRun : {F : Type 0} → (F → Option (List ℕ)) → ℕ → Option (List ℕ) → Option (List ℕ) → Type 0
IsRun rem files old new = (o : Outcome) × IsOutcome rem files o × AreComplete o.ends.items × Appends old new (text_of o)

-- a run over so many files ended with a fault, before anything was written or at its tally, and the fault's line is told; or a worker
-- of it ended early
abbrev pub TellsRun : {F T E : Type 0} → (F → Option (List ℕ)) → ℕ → Option (List ℕ) → Option (List ℕ) → Option (List ℕ) → Option (List ℕ) → Result T E → Type 0
TellsRun rem files old new told_old told_new told =
    ((f : Fault) × ((IsOfRun files f × (new ≡ old)) ⊎ ((o : Outcome) × IsOutcome rem files o × FailsTally f o old new)) × Writes told_old told_new (fault_line f) told)
    ⊎ ((o : Outcome) × IsOutcome rem files o × EndsEarly o old new told_old told_new told)

-- a replay ended with a fault, whose line is told
abbrev pub TellsReplay : {T E : Type 0} → Day → Option (List ℕ) → Option (List ℕ) → Option (List ℕ) → Option (List ℕ) → Option (List ℕ) → Result T E → Type 0
TellsReplay opening input old new told_old told_new told =
    (f : ReplayFault) × FailsReplay f opening input old new × Writes told_old told_new (fault_line (of_replay f)) told

-- a day's statements ended with a fault, whose line is told
abbrev pub TellsDay : {T E : Type 0} → Day → Day → Option (List ℕ) → Option (List ℕ) → Option (List ℕ) → Option (List ℕ) → Option (List ℕ) → Result T E → Type 0
TellsDay opening day input old new told_old told_new told =
    (f : Fault) × IfSome input (λ bytes. FailsDay f (loaded opening bytes) day old new) × Writes told_old told_new (fault_line f) told

-- the work that a line asks for was done: the replies to all of the input were written, or the tally of a run, or the
-- statements of a day; the first argument says what opened files have
abbrev pub IsDone : {F : Type 0} → (F → Option (List ℕ)) → Asked → Option (List ℕ) → Option (List ℕ) → Option (List ℕ) → Type 0
IsDone rem (Asked.Replay opening) input old new = IfSome input (λ bytes. Appends old new (output opening bytes))
IsDone rem (Asked.Run opening files) input old new = IsRun rem (vec_len files) old new
IsDone rem (Asked.Statements opening day workers) input old new = IfSome input (λ bytes. WritesDay (loaded opening bytes) day old new)

-- it was not, and what came instead is told
abbrev pub TellsWork : {F T E : Type 0} → (F → Option (List ℕ)) → Asked → Option (List ℕ) → Option (List ℕ) → Option (List ℕ) → Option (List ℕ) → Option (List ℕ) → Result T E → Type 0
TellsWork rem (Asked.Replay opening) input old new told_old told_new told = TellsReplay opening input old new told_old told_new told
TellsWork rem (Asked.Run opening files) input old new told_old told_new told = TellsRun rem (vec_len files) old new told_old told_new told
TellsWork rem (Asked.Statements opening day workers) input old new told_old told_new told = TellsDay opening day input old new told_old told_new told
