-- What a source over the records of a reader tells, and when it reads no more.
use Rattle.std.specs.Prelude.{◌≡◌, ◌⊎◌, ℕ, ◌+◌, ◌<◌, Bool, true, nat_lt, if◌then◌else◌, length, map, take, List, [], ◌∷◌, Option, Some, None, IfSome, option_map, Ok, Err, ⊤}
use Rattle.cns_feed.specs.Common.{Told, ends_at_end, default_config, has_failed, reader_state, records_from, source_of, Command, Records}
use Rattle.cns_terms.specs.Sources.{Answer}
use Rattle.cns_terms.specs.declared.source.Item.{Item}
use Rattle.cns_terms.specs.declared.source.SourceFault.{SourceFault}
use Rattle.cns_feed.specs.Line.{Line, line_of}
use Rattle.cns_feed.specs.Records.{IsReady, remaining_under}
use Rattle.cns_feed.specs.declared.source.SourceEnd.{SourceEnd}

-- the answer of a source that has ended
abbrev pub answer_of : SourceEnd → Answer
answer_of SourceEnd.Finished = Ok Item.Finished
answer_of (SourceEnd.Fault f) = Err f

-- the end that an answer is, if it is one
abbrev pub end_of : Answer → Option SourceEnd
end_of (Ok (Item.Given c)) = None
end_of (Ok Item.Line) = None
end_of (Ok Item.Finished) = Some SourceEnd.Finished
end_of (Err f) = Some (SourceEnd.Fault f)

-- a source: what it tells, its end, how many records it may still read, and whether the reader underneath failed or was
-- refused memory
pub record Telling : Type 0 where
  pub told : Option Told
  pub ended : Option Answer
  pub left : ℕ
  pub failed : Bool

-- the command of a line, or None where it is invalid
abbrev pub given_of : Line → Option Command
given_of (Ok cmd) = Some cmd
given_of (Err f) = None

-- what is told of lines, of which fewer than so many are read up to the end
abbrev pub told_of : ℕ → List Line → Told
told_of most lines = record {
  items = map given_of (take most lines);
  end = if nat_lt (length lines) most then Ok Item.Finished else Err SourceFault.Read;
}

-- the lines that a reader of records has left, where the bytes are known
abbrev pub lines_left : {R : Type 0} → (R → Option (List ℕ)) → Records R → Option (List Line)
lines_left rem rs =
    if ends_at_end (reader_state rs.rows) then None
    else option_map (λ bytes. map line_of (records_from default_config (length bytes + 1) (reader_state rs.rows) bytes)) (source_of (remaining_under rem) rs.rows)

-- a line was read, and the others are left
abbrev pub GivesItem : {R : Type 0} → (R → Option (List ℕ)) → ℕ → Records R → Records R → Option Command → Type 0
GivesItem rem left old new x = (0 < left) × IsReady new
    × IfSome (lines_left rem old) (λ all. (line : Line) × (rest : List Line) × (all ≡ line ∷ rest) × (given_of line ≡ x) × (lines_left rem new ≡ Some rest))

-- what is told once the end was given, and before that
abbrev pub told_at : Option SourceEnd → ℕ → Option (List Line) → Option Told
told_at (Some e) most lines = Some (record { items = []; end = answer_of e })
told_at None most lines = option_map (told_of most) lines

-- Read comes where the reader underneath failed, or as many records were read as may be
abbrev pub FailsRead : Telling → Answer → Telling → Type 0
FailsRead old a new = old.ended ≡ None → a ≡ Err SourceFault.Read → (new.failed ≡ true) ⊎ (old.left ≡ 0)

-- what the read of an item came to, of which at most so many are read
abbrev pub ReadsItem : {R : Type 0} → (R → Option (List ℕ)) → ℕ → Records R → Records R → Answer → Type 0
ReadsItem rem left old new (Ok (Item.Given c)) = GivesItem rem left old new (Some c)
ReadsItem rem left old new (Ok Item.Line) = GivesItem rem left old new None
ReadsItem rem left old new (Ok Item.Finished) = (0 < left) × IfSome (lines_left rem old) (λ all. all ≡ [])
ReadsItem rem left old new (Err SourceFault.Read) = (has_failed new.rows ≡ true) ⊎ (left ≡ 0)
ReadsItem rem left old new (Err SourceFault.NoMemory) = ⊤
