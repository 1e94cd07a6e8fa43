-- The words of a line.
-- For `entered`, `run_command`, `matches_in` and `command_line` of asked.rt; `workers_read` of asked.rt.
use Rattle.cns_program.proofs.Common.{◌≡◌, ◌&&◌, Bool, true, false, not, refl, Option, Some, option_map, arith, is_simple, is_simple_and_free, ◌<◌, ◌^◌, ℕ, sym, List, [], ◌∷◌, length, None, nat_le, if◌then◌else◌, digits_value, all_ascii_digits, program_line}
use Rattle.std.specs.Option.{IsSomeAnd}
use Rattle.clap.proofs.OnLiterals.{clap_on_literals}
use Rattle.std.proofs.lemmas.Bool.Decides.{nat_tests}
use Rattle.cns_program.specs.Asks.{workers_read}

-- the third of the settings of a plain command, by which it has no argument for all its subcommands
pub third_is_off : (a b c rest : Bool) → (a && (not b && (not c && rest))) ≡ true → c ≡ false
third_is_off a b c rest h = grind arith

-- clap tells of lines of this form what they give
pub line_is_simple : is_simple program_line ≡ true
unfolding program_line clap_on_literals
line_is_simple = refl

pub line_is_free : is_simple_and_free program_line ≡ true
unfolding program_line clap_on_literals
line_is_free = refl

abbrev both : {A B C : Type 0} → (A → B) → (A → C) → A → B × C
both f g a = (f a, g a)

-- two readings of one thing, together
pub paired : {A B C D : Type 0} (f : A → B) (g : A → C) (n : D → B) (w : D → C) (r : Option D) (o : Option A)
    → option_map n r ≡ option_map f o → option_map w r ≡ option_map (λ (p : B × C). p.1) (option_map (both f g) o)
    → option_map (both n w) r ≡ option_map (both f g) o
paired f g n w r o one two = grind arith

-- a value that has to be a given one
pub only_value : {A : Type 0} (o : Option A) (a : A) → IsSomeAnd o (λ x. x ≡ a) → o ≡ Some a
only_value o a h = grind arith

of_parts : (v : ℕ) → (v < 2 ^ 64 → ⊥) → (d low high : Bool) → nat_le v 64 ≡ high → (if d && (low && high) then Some v else None) ≡ None
of_parts v wide d low high h = grind (arith, nat_tests, wide)

-- digits that are no number of 64 bits
pub unread : (bs : List ℕ) → ((0 < length bs) × (digits_value 10 bs < 2 ^ 64) → ⊥) → None ≡ workers_read bs
unread [] none = refl
unread (c ∷ cs) none = sym (of_parts (digits_value 10 (c ∷ cs)) (λ fits. none (omega arith, fits)) (all_ascii_digits (c ∷ cs)) _ _ refl)
