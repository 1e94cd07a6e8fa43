-- What a source tells of what it still has to give.
use Rattle.std.specs.Prelude.{◌≡◌, ◌⊎◌, Bool, true, List, [], ◌∷◌, Option, Some, None, Result, Ok, Err, ⊤, IfSome}
use Rattle.cns_terms.specs.Types.{Command}
use Rattle.cns_terms.specs.declared.source.Item.{Item}
use Rattle.cns_terms.specs.declared.source.SourceFault.{SourceFault}

-- what a source answers
abbrev pub Answer : Type 0
Answer = Result Item SourceFault

-- the commands and the invalid records (None) that are still to come, in order, and the answer after them
pub record Told : Type 0 where
  pub items : List (Option Command)
  pub end : Answer

-- the first of what is left, and the rest
abbrev pub GivesFirst : Told → Option Command → Option Told → Type 0
GivesFirst t x new = (rest : List (Option Command)) × (t.items ≡ x ∷ rest) × (new ≡ Some (record { items = rest; end = t.end }))

-- the end, where nothing is left
abbrev pub GivesEnd : Told → Answer → Option Told → Type 0
GivesEnd t a new = (t.items ≡ []) × (t.end ≡ a) × (new ≡ Some t)

-- an answer of a source that tells, and what it tells then; the first argument says whether it may fail
abbrev pub GivesTold : Bool → Told → Answer → Option Told → Type 0
GivesTold fails t (Ok (Item.Given c)) new = GivesFirst t (Some c) new
GivesTold fails t (Ok Item.Line) new = GivesFirst t None new
GivesTold fails t (Ok Item.Finished) new = GivesEnd t (Ok Item.Finished) new
GivesTold fails t (Err SourceFault.Read) new = (fails ≡ true) ⊎ GivesEnd t (Err SourceFault.Read) new
GivesTold fails t (Err SourceFault.NoMemory) new = ⊤

-- an answer of any source
abbrev pub Gives : Bool → Option Told → Answer → Option Told → Type 0
Gives fails old a new = IfSome old (λ t. GivesTold fails t a new)

-- after Finished or a fault the same is answered again
abbrev pub Repeats : Option Answer → Answer → Option Answer → Type 0
Repeats old a new = IfSome old (λ e. (a ≡ e) × (new ≡ old))

-- Finished or a fault is kept
abbrev pub Ends : Answer → Option Answer → Type 0
Ends (Ok (Item.Given c)) new = ⊤
Ends (Ok Item.Line) new = ⊤
Ends (Ok Item.Finished) new = new ≡ Some (Ok Item.Finished)
Ends (Err e) new = new ≡ Some (Err e)
