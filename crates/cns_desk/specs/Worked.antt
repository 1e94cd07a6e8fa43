-- What a worker makes of what its source tells.
use Rattle.std.specs.Prelude.{◌≡◌, ℕ, ◌+◌, ◌-◌, ◌<◌, ◌^◌, ◌⊎◌, Bool, true, List, [], ◌∷◌, ◌++◌, length, map, Option, Some, None, Ok, Err, ⊤, IfSome}
use Rattle.cns_terms.specs.Common.{AllByRecursion, Told}
use Rattle.cns_terms.specs.declared.command.Command.{Command}
use Rattle.cns_terms.specs.declared.source.Item.{Item}
use Rattle.cns_terms.specs.declared.source.SourceFault.{SourceFault}
use Rattle.cns_terms.specs.Sources.{GivesFirst}
use Rattle.cns_desk.specs.Logged.{Logged}
use Rattle.cns_desk.specs.declared.end.End.{End}
use Rattle.cns_desk.specs.declared.fault.OpenFault.{OpenFault}
use Rattle.cns_desk.specs.declared.fault.RunFault.{RunFault}
use Rattle.cns_desk.specs.declared.log.LogItem.{LogItem}

-- the commands among what a source gave, in order
abbrev pub commands_in : List (Option Command) → List Command
commands_in [] = []
commands_in ((Some c) ∷ xs) = c ∷ commands_in xs
commands_in (None ∷ xs) = commands_in xs

-- how many invalid records are among it
abbrev pub lines_in : List (Option Command) → ℕ
lines_in [] = 0
lines_in ((Some c) ∷ xs) = lines_in xs
lines_in (None ∷ xs) = lines_in xs + 1

-- an item of the log without a sheet
abbrev pub HasNoSheet : LogItem → Type 0
HasNoSheet i = i.sheet ≡ None

-- the log has the commands of what was given, in order, each without a sheet, and the count of its invalid records
pub record Logs (given : List (Option Command)) (log : Logged) : Type 0 where
  pub commands : map (λ i. i.command) log.items ≡ commands_in given
  pub sheets : AllByRecursion HasNoSheet log.items
  pub lines : log.lines ≡ lines_in given

-- the log grew by what one record gave
abbrev pub Adds : Logged → Logged → Option Command → Type 0
Adds old new (Some c) = (i : LogItem) × (i.command ≡ c) × (i.sheet ≡ None) × (new.items ≡ old.items ++ i ∷ []) × (new.lines ≡ old.lines)
Adds old new None = (new.items ≡ old.items) × (new.lines ≡ old.lines + 1)

-- the log has the items and the count that it had
abbrev pub StaysLogged : Logged → Logged → Type 0
StaysLogged old new = (new.items ≡ old.items) × (new.lines ≡ old.lines)

-- an end for lack of memory, or at the limit of the history
abbrev pub EndsAtSubmit : End → Type 0
EndsAtSubmit End.NoMemory = ⊤
EndsAtSubmit End.Full = ⊤
EndsAtSubmit _ = ⊥

-- ---- what a worker makes of a source that tells; the first argument says whether the source may fail

-- the source was at the end that the worker met
abbrev pub MetEnd : Bool → Told → End → Type 0
MetEnd fails t End.Complete = (t.items ≡ []) × (t.end ≡ Ok Item.Finished)
MetEnd fails t (End.Source SourceFault.Read) = (fails ≡ true) ⊎ ((t.items ≡ []) × (t.end ≡ Err SourceFault.Read))
MetEnd fails t (End.Source SourceFault.NoMemory) = ⊤
MetEnd fails t End.NoMemory = ⊤
MetEnd fails t End.Full = ⊤

-- one record: it was the first of what is left, and is in the log; or the worker ended
abbrev pub Steps : Bool → Told → Option End → Option Told → Logged → Logged → Type 0
Steps fails t None now old new = (x : Option Command) × GivesFirst t x now × Adds old new x
Steps fails t (Some e) now old new = StaysLogged old new × MetEnd fails t e

-- what the end says of what was left: nothing, where the worker met the end of its source before the most records were read
abbrev pub LeftAt : Bool → Told → List (Option Command) → List (Option Command) → End → Type 0
LeftAt fails t given rest End.Complete = (rest ≡ []) × (t.end ≡ Ok Item.Finished)
LeftAt fails t given rest (End.Source SourceFault.Read) = length given < 2 ^ 32 - 1 → (fails ≡ true) ⊎ ((rest ≡ []) × (t.end ≡ Err SourceFault.Read))
LeftAt fails t given rest (End.Source SourceFault.NoMemory) = ⊤
LeftAt fails t given rest End.NoMemory = ⊤
LeftAt fails t given rest End.Full = ⊤

-- a worker's log and end: the log is that of what was given up to where the worker ended
pub record Worked (fails : Bool) (t : Told) (log : Logged) (end : End) : Type 0 where
  pub given : List (Option Command)
  pub rest : List (Option Command)
  pub split : t.items ≡ given ++ rest
  pub logs : Logs given log
  pub left : LeftAt fails t given rest end

-- worker by worker, the logs and ends are those of the sources that tell
abbrev pub HaveRun : {S : Type 0} → Bool → (S → Option Told) → List S → List Logged → List End → Type 0
HaveRun fails told [] [] [] = ⊤
HaveRun fails told (s ∷ ss) (l ∷ ls) (e ∷ es) = IfSome (told s) (λ t. Worked fails t l e) × HaveRun fails told ss ls es
HaveRun fails told [] [] (e ∷ es) = ⊥
HaveRun fails told [] (l ∷ ls) es = ⊥
HaveRun fails told (s ∷ ss) [] es = ⊥
HaveRun fails told (s ∷ ss) (l ∷ ls) [] = ⊥

-- ---- faults of a run

-- a fault of a run that was begun
abbrev pub IsLate : RunFault → Type 0
IsLate RunFault.Workers = ⊥
IsLate RunFault.Spawn = ⊤
IsLate RunFault.NoMemory = ⊤
IsLate RunFault.Mismatch = ⊤

-- what it is to a run that a desk was not opened
abbrev pub run_fault_of : OpenFault → RunFault
run_fault_of OpenFault.Workers = RunFault.Workers
run_fault_of OpenFault.NoMemory = RunFault.NoMemory
