-- The records that a reader has left, and what a read takes of them.
-- For `read_line` of records.rt, `play` of player.rt, `take_all` of loader.rt.
use Rattle.cns_feed.proofs.Common.{if◌then◌else◌, Bool, ◌≡◌, ℕ, suc, ◌+◌, ◌<◌, ◌≤◌, true, false, List, [], ◌∷◌, length, map, Option, Some, None, refl, sym, ap, ◌∙◌, arith, inl, ReadRecord, default_config, Line, Record, line_of, EndsReading, Left, Setup, ReplayFault, Records}
use Rattle.csv.specs.Machine.{Read, ends_at_end, is_end, next_record, step}
use Rattle.csv.specs.Reading.{Reached, records_from}
use Rattle.csv.specs.declared.parser.Action.{Action}
use Rattle.csv.specs.declared.parser.Config.{Config}
use Rattle.csv.specs.declared.parser.State.{State}
use Rattle.csv.specs.declared.reader.Reader.{Reader}
use Rattle.csv.proofs.ReadFacts.{rows-more}

pick : {A : Type 0} (P : A → Type 0) (b : Bool) (x y : A) → (b ≡ true → P x) → (b ≡ false → P y) → P (if b then x else y)
pick P b x y h k = grind arith

abbrev IsClean : State × Action → Type 0
IsClean p = is_end p.1 ≡ true → ends_at_end p.0 ≡ false

clean_step : (cfg : Config) (s : State) (c : ℕ) → IsClean (step cfg s c)
clean_step cfg s c = grind arith

-- ---- a record takes bytes

abbrev IsMove : State → ℕ → Option Read → Type 0
IsMove s n None = Unit {0}
IsMove s n (Some p) = (length p.2 ≤ n) × (ends_at_end s ≡ false → length p.2 < n) × (ends_at_end p.1 ≡ false)

move_longer : (s t : State) (n : ℕ) (o : Option Read) → IsMove t n o → IsMove s (suc n) o
move_longer s t n o h = grind arith

moves : (cfg : Config) (xs : List ℕ) (s : State) (fields : List (List ℕ)) (field : List ℕ) → IsMove s (length xs) (next_record cfg s fields field xs)
unfolding next_record
moves cfg [] s fields field = grind arith
moves cfg (c ∷ rest) s fields field =
    pick (IsMove s (suc (length rest))) (is_end (step cfg s c).1) _ _
    (λ e. (omega arith, (λ f. omega arith), clean_step cfg s c e))
    (λ e. move_longer s (step cfg s c).0 (length rest) _ (moves cfg rest (step cfg s c).0 _ _))

-- ---- the first record of a text

-- the records of a text, whatever number above its length they are counted down from
enough : (cfg : Config) (n m : ℕ) (s : State) (xs : List ℕ) → length xs < n → length xs < m → ends_at_end s ≡ false → records_from cfg n s xs ≡ records_from cfg m s xs
unfolding records_from
enough cfg (suc n) (suc m) s xs lt lt2 between = grind (arith, moves, enough cfg n m)
enough cfg _ _ s xs lt lt2 between = absurd (omega arith)

first_record : (cfg : Config) (s : State) (xs : List ℕ) (p : Read) → ends_at_end s ≡ false → next_record cfg s [] [] xs ≡ Some p
    → (records_from cfg (length xs + 1) s xs ≡ p.0 ∷ records_from cfg (length p.2 + 1) p.1 p.2) × (ends_at_end p.1 ≡ false)
unfolding records_from
first_record cfg s xs p between e = grind (arith, moves, enough)

no_record : (cfg : Config) (s : State) (xs : List ℕ) → next_record cfg s [] [] xs ≡ None → records_from cfg (length xs + 1) s xs ≡ []
unfolding records_from
no_record cfg s xs e = grind arith

-- ---- what is left

-- a reader that gave a record, or told that there is none, reads on as it did
pub setup_kept : {R : Type 0} (rem : R → Option (List ℕ)) (a b : Reader R) (found : Bool) (fields : Record)
    → Setup a → ReadRecord rem a b found fields → b.first ≡ true → b.flexible ≡ a.flexible → Setup b
setup_kept rem a b found fields s r first flexible = record { no_trim = r.3 ∙ s.no_trim; ready = inl first; config = r.2 ∙ s.config; flexible = flexible ∙ s.flexible }

-- the line that was read, and those after it
pub next_line : {R : Type 0} (rem : R → Option (List ℕ)) (a b : Reader R) (fields : Record) (line : Line)
    → line ≡ line_of fields → Setup a → ReadRecord rem a b true fields → (all : List Line) → Left rem a all → (rest : List Line) × (all ≡ line ∷ rest) × Left rem b rest
unfolding Reached
next_line rem a b fields line is setup r all p =
    let (left, source, (q, e, first, there)) = rows-more rem a b fields default_config a.state p.bytes p.bytes [] setup.config p.source (refl, refl) r in
    let (records_are, between) = first_record default_config a.state p.bytes q p.between e in (
      map line_of (records_from default_config (length left + 1) b.state left),
      p.lines_are ∙ ap (map line_of) (records_are ∙ (λ i. sym first i ∷ records_from default_config (length (there.1 i) + 1) (there.0 i) (there.1 i))) ∙ ap (λ l. l ∷ map line_of (records_from default_config (length left + 1) b.state left)) (sym is),
      record { bytes = left; source = source; between = rw (sym there.0) between; lines_are = refl },
    )

-- no line was left
pub no_line : {R : Type 0} (rem : R → Option (List ℕ)) (a b : Reader R) (fields : Record)
    → Setup a → ReadRecord rem a b false fields → (all : List Line) → Left rem a all → all ≡ []
no_line rem a b fields setup r all p = grind (arith, no_record)

-- a reader that ended reading did so whatever was read
pub ends-any : {R : Type 0} (e : ReplayFault) (rs : Records R) (Most : Type 0) → EndsReading e rs ⊥ → EndsReading e rs Most
ends-any e rs Most h = grind arith
