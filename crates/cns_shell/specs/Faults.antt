-- The faults of a program, and their lines.
use Rattle.std.specs.Prelude.{ℕ, ◌∷◌, [], List, codes, decimal}
use Rattle.std.specs.Option.{option_map_or}
use Rattle.cns_units.specs.Day.{day_text}
use Rattle.cns_terms.specs.Common.{text_line}
use Rattle.cns_feed.specs.declared.fault.ReplayFault.{ReplayFault}
use Rattle.cns_shell.specs.declared.fault.Fault.{Fault}

-- a replay's fault
abbrev pub of_replay : ReplayFault → Fault
of_replay ReplayFault.Read = Fault.Read
of_replay ReplayFault.Write = Fault.Write
of_replay ReplayFault.NoMemory = Fault.NoMemory
of_replay ReplayFault.Full = Fault.Full

-- the word for a fault
abbrev pub fault_name : Fault → List ℕ
fault_name Fault.Read = codes "Read"
fault_name Fault.Write = codes "Write"
fault_name Fault.NoMemory = codes "NoMemory"
fault_name Fault.Full = codes "Full"
fault_name (Fault.Open file) = codes "Open"
fault_name Fault.Spawn = codes "Spawn"
fault_name Fault.Mismatch = codes "Mismatch"
fault_name Fault.NoSuchDay = codes "NoSuchDay"
fault_name Fault.NoSuchMember = codes "NoSuchMember"
fault_name Fault.NoSuchIssue = codes "NoSuchIssue"
fault_name Fault.NoSuchFolder = codes "NoSuchFolder"
fault_name (Fault.OtherPage d a) = codes "OtherPage"

-- what follows the word: the number of a file that could not be opened, from 1, or the date and the account of a page
abbrev pub fault_file : Fault → List (List ℕ)
fault_file (Fault.Open file) = decimal file ∷ []
fault_file (Fault.OtherPage d a) = day_text d ∷ option_map_or (λ n. decimal n ∷ []) a []
fault_file _ = []

-- `fault`, its word and what follows
abbrev pub fault_line : Fault → List ℕ
fault_line f = text_line (codes "fault") (fault_name f ∷ fault_file f)
