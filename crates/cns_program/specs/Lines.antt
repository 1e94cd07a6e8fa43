-- What the program writes to standard error.
use Rattle.std.specs.Prelude.{ℕ, ◌+◌, ◌++◌, ◌∷◌, [], List, Option, Some, None, ◌⊎◌, codes, decimal}
use Rattle.cns_program.specs.Common.{Appends, AppendsFront, text_line, End}
use Rattle.cns_terms.specs.declared.source.SourceFault.{SourceFault}

-- the usage, for a refused line
abbrev pub usage_line : List ℕ
usage_line = codes "usage: cnsbook replay --open DATE | run --open DATE FILE... | statements --open DATE --day DATE --workers N" ++ 10 ∷ []

-- the word for the end of a worker that ended early
abbrev pub end_name : End → Option (List ℕ)
end_name End.Complete = None
end_name (End.Source SourceFault.Read) = Some (codes "Read")
end_name (End.Source SourceFault.NoMemory) = Some (codes "NoMemory")
end_name End.NoMemory = Some (codes "NoMemory")
end_name End.Full = Some (codes "Full")

-- `worker`, its number and the word
abbrev pub named_line : ℕ → Option (List ℕ) → List ℕ
named_line number None = []
named_line number (Some name) = text_line (codes "worker") (decimal number ∷ name ∷ [])

-- the line of a worker that ended early; nothing for one that came to the end of its source
abbrev pub end_line : ℕ → End → List ℕ
end_line number e = named_line number (end_name e)

-- the lines of the workers from a number on
abbrev pub end_lines : ℕ → List End → List ℕ
end_lines number [] = []
end_lines number (e ∷ es) = end_line number e ++ end_lines (number + 1) es

-- the line was written to its end, or, where the writer failed, a prefix of it that is not all of it
abbrev pub IsTold : Option (List ℕ) → Option (List ℕ) → List ℕ → Type 0
IsTold old new line = Appends old new line ⊎ AppendsFront old new line
