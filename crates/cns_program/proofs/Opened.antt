-- Sources over files that were opened.
-- For `open_files` and `run_files` of running.rt.
use Rattle.cns_program.proofs.Common.{◌≡◌, ℕ, ◌-◌, ◌^◌, Bool, List, [], ◌∷◌, ◌++◌, Option, Some, None, IfSome, option_map, arith, Told, lines_of, Logged, End, ReadEach, Reads, told_by}
use Rattle.cns_feed.specs.Source.{told_of}
use Rattle.cns_desk.specs.Worked.{HaveRun, Worked}

-- one file more
pub read_more : {S F : Type 0} (told : S → Option Told) (rem : F → Option (List ℕ)) (ss : List S) (fs : List F) (s : S) (f : F)
    → ReadEach told rem ss fs → Reads rem f (told s) → ReadEach told rem (ss ++ s ∷ []) (fs ++ f ∷ [])
read_more told rem [] [] s f all one = (one, tt)
read_more told rem (x ∷ ss) (y ∷ fs) s f all one = (all.0, read_more told rem ss fs s f all.1 one)
read_more told rem _ _ s f all one = absurd all

-- what a worker made of a source it made of the file
worked_by : (known : Option (List ℕ)) (told : Option Told) (fails : Bool) (l : Logged) (e : End)
    → IfSome known (λ bytes. told ≡ Some (told_of (2 ^ 32 - 1) (lines_of bytes))) → IfSome told (λ t. Worked fails t l e)
    → IfSome (option_map (λ bytes. told_of (2 ^ 32 - 1) (lines_of bytes)) known) (λ t. Worked fails t l e)
worked_by None told fails l e reads worked = tt
worked_by (Some bytes) told fails l e reads worked = rw reads at worked

-- what workers made of sources they made of the files
pub ran_by : {S F : Type 0} (told : S → Option Told) (rem : F → Option (List ℕ)) (fails : Bool) (ss : List S) (fs : List F) (ls : List Logged) (es : List End)
    → ReadEach told rem ss fs → HaveRun fails told ss ls es → HaveRun fails (told_by rem) fs ls es
ran_by told rem fails [] [] [] [] read ran = tt
ran_by told rem fails (s ∷ ss) (f ∷ fs) (l ∷ ls) (e ∷ es) read ran =
    (worked_by (rem f) (told s) fails l e read.0 ran.0, ran_by told rem fails ss fs ls es read.1 ran.1)
ran_by told rem fails _ _ _ _ read ran = grind arith
