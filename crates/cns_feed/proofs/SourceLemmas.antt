-- What a source over records tells, and what a read takes of it.
-- For `next` and `read_item` of source.rt.
use Rattle.cns_feed.proofs.Common.{◌≡◌, ℕ, zero, suc, ◌+◌, ◌-◌, ◌<◌, true, List, [], ◌∷◌, length, map, Option, Some, None, IfSome, Ok, Err, refl, arith, nat_lt, nat_tests, default_config, reader_state, records_from, Line, line_of, Gives, IsReady, Pending, GivesItem, ReadsItem, end_of, given_of, lines_left, told_at, told_of, Records}
use Rattle.cns_terms.specs.Sources.{Answer, Gives as GivesAnswer, GivesEnd, GivesFirst}
use Rattle.cns_terms.specs.declared.command.Command.{Command}
use Rattle.cns_terms.specs.declared.source.Item.{Item}

-- the lines of bytes that are left
abbrev lines_in : {R : Type 0} → Records R → List ℕ → List Line
lines_in rs bytes = map line_of (records_from default_config (length bytes + 1) (reader_state rs.rows) bytes)

-- these are the lines that are left
pub left_pending : {R : Type 0} (rem : R → Option (List ℕ)) (rs : Records R) (all : List Line) → lines_left rem rs ≡ Some all → Pending rem rs all
left_pending rem rs all h = grind arith

-- and the other way round
pub pending_left : {R : Type 0} (rem : R → Option (List ℕ)) (rs : Records R) (all : List Line) → Pending rem rs all → lines_left rem rs ≡ Some all
pending_left rem rs all p = grind (arith, p)

-- what holds of the lines that are left, where they are known
pub where_known : (o : Option (List Line)) (P : List Line → Type 0) → ((all : List Line) → o ≡ Some all → P all) → IfSome o P
where_known o P f = grind arith

-- a line was read
pub item_line : {R : Type 0} (rem : R → Option (List ℕ)) (a b : Records R) (left : ℕ) (line : Line) (x : Option Command)
    → 0 < left → given_of line ≡ x → Gives rem a b line → IsReady b → GivesItem rem left a b x
item_line rem a b left line x more given gives setup = (
  more,
  setup,
  where_known (lines_left rem a) _ (λ all h.
      let (rest, first_is, pending) = gives all (left_pending rem a all h) in
      (line, rest, first_is, given, pending_left rem b rest pending)),
)

-- ---- what is told then

-- the first of what is told is of the first line, and the rest of the others
first_told : (left : ℕ) (x : Option Command) (line : Line) (rest : List Line) → 0 < left → given_of line ≡ x → GivesFirst (told_of left (line ∷ rest)) x (Some (told_of (left - 1) rest))
first_told zero x line rest more given = absurd (omega (arith, more))
first_told (suc n) x line rest more given = grind arith

-- an item was given
gives_item : {R : Type 0} (rem : R → Option (List ℕ)) (a b : Records R) (left : ℕ) (x : Option Command) (old : Option (List Line))
    → 0 < left → IfSome old (λ all. (line : Line) × (rest : List Line) × (all ≡ line ∷ rest) × (given_of line ≡ x) × (lines_left rem b ≡ Some rest))
    → IfSome (told_at None left old) (λ t. GivesFirst t x (told_at None (left - 1) (lines_left rem b)))
gives_item rem a b left x None more gives = tt
gives_item rem a b left x (Some all) more (line, rest, whole, given, others) = rw (whole, others) (first_told left x line rest more given)

-- no item was left
gives_end : (left : ℕ) (old : Option (List Line)) → 0 < left → IfSome old (λ all. all ≡ [])
    → IfSome (told_at None left old) (λ t. GivesEnd t (Ok Item.Finished) (Some (record { items = []; end = Ok Item.Finished })))
gives_end left None more gives = tt
gives_end zero (Some all) more gives = absurd (omega (arith, more))
gives_end (suc n) (Some all) more gives = let least : nat_lt 0 (suc n) ≡ true = grind (arith, nat_tests) in rw (gives, least) (refl, refl, refl)

-- what a source gives that has not ended
pub gives_told : {R : Type 0} (rem : R → Option (List ℕ)) (a b : Records R) (left : ℕ) (x : Answer)
    → ReadsItem rem left a b x → GivesAnswer true (told_at None left (lines_left rem a)) x (told_at (end_of x) (left - 1) (lines_left rem b))
gives_told rem a b left (Ok (Item.Given cmd)) read = gives_item rem a b left (Some cmd) (lines_left rem a) read.0 read.2
gives_told rem a b left (Ok Item.Line) read = gives_item rem a b left None (lines_left rem a) read.0 read.2
gives_told rem a b left (Ok Item.Finished) read = gives_end left (lines_left rem a) read.0 read.1
gives_told rem a b left (Err f) read = grind arith
