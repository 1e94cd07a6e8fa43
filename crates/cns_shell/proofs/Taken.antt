-- What clap makes of words of a line that it takes, and of one that it refuses.
-- For `matches_of` of options.rt.
use Rattle.std.proofs.Common.{◌≡◌, false, arith, List, [], ◌∷◌, Option, None, refl}
use Rattle.std.proofs.lemmas.Bool.{ne_eqb}
use Rattle.clap.specs.Kinds.{IsAmong, Kinds}
use Rattle.clap.specs.Walk.{is_empty}
use Rattle.clap.specs.Words.{App, Text, fault_of}
use Rattle.clap.specs.declared.error.kind.ErrorKind.{ErrorKind}
use Rattle.cns_shell.specs.Options.{if_taken}

-- a line that clap takes
pub taken : {T : Type 0} (line : App) (words : List Text) (made : Option T) → fault_of line words ≡ [] → made ≡ if_taken line words made
taken line words made none = rw none refl

some_kind : (k : ErrorKind) (kinds : Kinds) → IsAmong k kinds → is_empty kinds ≡ false
some_kind k [] h = absurd h
some_kind k (x ∷ xs) h = ne_eqb _ _ (λ e. omega (arith, e))

-- a line that it refuses
pub refused : {T : Type 0} (line : App) (words : List Text) (made : Option T) (k : ErrorKind) → IsAmong k (fault_of line words) → None ≡ if_taken line words made
refused line words made k among = rw (some_kind k _ among) refl
