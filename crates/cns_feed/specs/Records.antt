-- The lines that a reader of records has left, and what a read takes of them.
use Rattle.std.specs.Prelude.{◌≡◌, ℕ, ◌+◌, ◌⊎◌, true, false, length, map, List, [], ◌∷◌, Option, Some, None, Result, Ok, Err}
use Rattle.cns_feed.specs.Common.{ends_at_end, Ready, default_config, has_failed, is_flexible, reader_config, reader_state, reader_trim, records_from, source_of, ReplayFault, Records}
use Rattle.csv.specs.declared.error.ErrorKind.{ErrorKind}
use Rattle.csv.specs.declared.reader.Reader.{Reader}
use Rattle.csv.specs.declared.reader.Trim.{Trim}
use Rattle.cns_feed.specs.Line.{Line, line_of}
use Rattle.cns_feed.specs.declared.counting.CountingReader.{CountingReader}

-- the bytes that are left of the reader underneath
abbrev pub remaining_under : {R : Type 0} → (R → Option (List ℕ)) → CountingReader R → Option (List ℕ)
remaining_under rem g = rem g.reader

-- how the reader reads: each record as it is, with any number of fields
pub record Setup {R : Type 0} (rdr : Reader R) : Type 0 where
  pub no_trim : reader_trim rdr ≡ Trim.None
  pub ready : Ready rdr
  pub config : reader_config rdr ≡ default_config
  pub flexible : is_flexible rdr ≡ true

-- these are the lines that a reader of records has left, where the bytes are known
pub record Left {R : Type 0} (rem : R → Option (List ℕ)) (rdr : Reader R) (lines : List Line) : Type 0 where
  pub bytes : List ℕ
  pub source : source_of rem rdr ≡ Some bytes
  pub between : ends_at_end (reader_state rdr) ≡ false
  pub lines_are : lines ≡ map line_of (records_from default_config (length bytes + 1) (reader_state rdr) bytes)

-- the same of the records of a reader
abbrev pub Pending : {R : Type 0} → (R → Option (List ℕ)) → Records R → List Line → Type 0
Pending rem rs lines = Left (remaining_under rem) rs.rows lines

-- records may be read on: nothing failed so far
abbrev pub IsReady : {R : Type 0} → Records R → Type 0
IsReady rs = Setup rs.rows

-- what an error of the reader is to a replay
abbrev pub fault_of : ErrorKind → ReplayFault
fault_of ErrorKind.OutOfMemory = ReplayFault.NoMemory
fault_of _ = ReplayFault.Read

-- why no more is read: the reader failed, or was refused memory; or the most records were read, as the last argument says
abbrev pub EndsReading : {R : Type 0} → ReplayFault → Records R → Type 0 → Type 0
EndsReading ReplayFault.Read rs Most = (has_failed rs.rows ≡ true) ⊎ Most
EndsReading ReplayFault.NoMemory rs Most = has_failed rs.rows ≡ true
EndsReading _ rs Most = ⊥

-- a read took this line, and the others are left
abbrev pub Gives : {R : Type 0} → (R → Option (List ℕ)) → Records R → Records R → Line → Type 0
Gives rem old new line = (all : List Line) → Pending rem old all → (rest : List Line) × (all ≡ line ∷ rest) × Pending rem new rest

-- what the read of a line came to
abbrev pub ReadsLine : {R : Type 0} → (R → Option (List ℕ)) → Records R → Records R → Result (Option Line) ReplayFault → Type 0
ReadsLine rem old new (Ok (Some line)) = Gives rem old new line × IsReady new
ReadsLine rem old new (Ok None) = (all : List Line) → Pending rem old all → all ≡ []
ReadsLine rem old new (Err e) = EndsReading e new ⊥
