-- Which faults of the program the faults of its parts are.
use Rattle.std.specs.Prelude.{ℕ, ◌≤◌, ⊤, Option, Some, None}
use Rattle.cns_program.specs.Common.{Fault}
use Rattle.cns_desk.specs.declared.fault.RunFault.{RunFault}
use Rattle.cns_statements.specs.declared.fault.PackFault.{PackFault}

-- the fault of a run over a right number of files
abbrev pub of_run : RunFault → Option Fault
of_run RunFault.Workers = None
of_run RunFault.Spawn = Some Fault.Spawn
of_run RunFault.NoMemory = Some Fault.NoMemory
of_run RunFault.Mismatch = Some Fault.Mismatch

-- the fault of a packing by a right number of workers
abbrev pub of_pack : PackFault → Option Fault
of_pack PackFault.Workers = None
of_pack PackFault.Spawn = Some Fault.Spawn
of_pack PackFault.NoMemory = Some Fault.NoMemory

-- a fault of opening so many files: it names one of them, or memory was refused
abbrev pub IsOfOpening : ℕ → Fault → Type 0
IsOfOpening files Fault.NoMemory = ⊤
IsOfOpening files (Fault.Open file) = (1 ≤ file) × (file ≤ files)
IsOfOpening files _ = ⊥

-- a fault of a run over so many files, before anything is written
abbrev pub IsOfRun : ℕ → Fault → Type 0
IsOfRun files Fault.NoMemory = ⊤
IsOfRun files (Fault.Open file) = (1 ≤ file) × (file ≤ files)
IsOfRun files Fault.Spawn = ⊤
IsOfRun files Fault.Mismatch = ⊤
IsOfRun files _ = ⊥
