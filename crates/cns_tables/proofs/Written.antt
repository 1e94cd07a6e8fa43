-- One text after another.
-- For `write_cell`, `write_line`, `write_some` and `write_table` of table.rt, `cut` and `write_form` of piece.rt, and for pages.
use Rattle.cns_tables.specs.declared.piece.Piece.{Piece}
use Rattle.cns_tables.proofs.Common.{append_assoc, ◌+◌, drop, map, piece_text, suc, nat_tests, ◌≢◌, ◌<◌, get_or, [], ◌∷◌, refl, ◌≡◌, ◌==◌, ℕ, List, ◌++◌, Result, Ok, Err, OnOk, ap, ◌∙◌, length, true, false, arith, none_of, some_of, filled, drop_more, table_text}
use Rattle.cns_tables.specs.declared.table.Table.{Table}

-- a text that was added, and then what the last call added
pub after : {T E : Type 0} (old mid new a b : List ℕ) (r : Result T E) → mid ≡ old ++ a → OnOk r (new ≡ mid ++ b) → OnOk r (new ≡ old ++ (a ++ b))
after old mid new a b (Ok x) first last = last ∙ ap (λ xs. xs ++ b) first ∙ append_assoc old a b
after old mid new a b (Err e) first last = tt

-- a table with no rows
pub no_rows : {X : Type 0} (row : X → List ℕ) (t : Table) (xs : List X) → (length xs == 0) ≡ true → table_text row t xs ≡ none_of t
unfolding table_text
no_rows row t xs h1 = grind arith

-- one with some
pub some_rows : {X : Type 0} (row : X → List ℕ) (t : Table) (xs : List X) → (length xs == 0) ≡ false → table_text row t xs ≡ some_of row t xs
unfolding table_text
some_rows row t xs h1 = grind arith

-- a form whose blanks are filled
pub no_text : (form : List ℕ) → filled form [] ≡ form
unfolding filled
no_text [] = refl
no_text (b ∷ form) = refl

-- one without blanks
pub no_blank : (form t : List ℕ) (texts : List (List ℕ)) → ((i : ℕ) → i < length form → get_or form i 0 ≢ 95) → filled form (t ∷ texts) ≡ form ++ (t ++ filled [] texts)
unfolding filled
no_blank [] t ts h = refl
no_blank (b ∷ form) t ts h = grind (arith, nat_tests, h 0 (omega arith), no_blank form t ts (λ i lt. h (suc i) (omega arith)))

-- the first blank of one
pub first_blank : (front rest t : List ℕ) (texts : List (List ℕ)) → ((i : ℕ) → i < length front → get_or front i 0 ≢ 95) → filled (front ++ (95 ∷ rest)) (t ∷ texts) ≡ front ++ (t ++ filled rest texts)
unfolding filled
first_blank [] rest t ts h = refl
first_blank (b ∷ front) rest t ts h = grind (arith, nat_tests, h 0 (omega arith), first_blank front rest t ts (λ i lt. h (suc i) (omega arith)))

-- one piece more is added
pub filled_more : (all old mid new form front rest : List ℕ) (ps : List Piece) (i : ℕ) (p : Piece) → i < length ps → p ≡ get_or ps i p
    → ((t : List ℕ) (ts : List (List ℕ)) → filled form (t ∷ ts) ≡ front ++ (t ++ filled rest ts))
    → all ≡ old ++ filled form (map piece_text (drop i ps)) → mid ≡ old ++ front → new ≡ mid ++ piece_text p
    → all ≡ new ++ filled rest (map piece_text (drop (i + 1) ps))
filled_more all old mid new form front rest ps i p lt at cut is first then = grind (arith, drop_more ps i p lt, cut (piece_text p) (map piece_text (drop (i + 1) ps)), append_assoc)
