-- The texts of tables.
use Rattle.std.specs.Prelude.{◌≡◌, ℕ, ◌+◌, ◌-◌, ◌^◌, List, [], ◌∷◌, ◌++◌, length, min}
use Rattle.std.specs.List.{flat_map, fold}
use Rattle.cns_tables.specs.Pieces.{filled, piece_text}
use Rattle.cns_tables.specs.declared.piece.Piece.{Piece}
use Rattle.cns_tables.specs.declared.table.Page.{Page}
use Rattle.cns_tables.specs.declared.table.Table.{Table}
use Rattle.cns_tables.specs.declared.table.TheConstants.{BEGIN, CELL, COLUMN, END, NONE, ROWS}

-- ---- rows

-- another cell of a row than the first
abbrev pub cell_of : Piece → List ℕ
cell_of p = CELL.now ++ piece_text p

-- other cells, in order
abbrev pub cells_of : List Piece → List ℕ
cells_of pieces = flat_map cell_of pieces

-- a row, of pieces: what stands before it, its first cell, and the others
abbrev pub row_of : List ℕ → Piece → List Piece → List ℕ
row_of head first others = head ++ (piece_text first ++ (cells_of others ++ 10 ∷ []))

-- the same of the pieces' texts
abbrev pub cells : List ℕ → List ℕ → List (List ℕ) → List ℕ
cells head first others = head ++ (first ++ (flat_map (λ t. CELL.now ++ t) others ++ 10 ∷ []))

-- ---- tables

-- one with no rows
unfoldable pub none_of : Table → List ℕ
none_of t = filled NONE.now (t.id.now ∷ t.id.now ∷ t.title.now ∷ t.none.now ∷ [])

-- what stands before the columns of one with rows
unfoldable pub caption_of : Table → List ℕ
caption_of t = filled BEGIN.now (t.id.now ∷ t.id.now ∷ t.title.now ∷ t.title.now ∷ t.caption.now ∷ [])

-- the names of its columns
abbrev pub columns_of : Table → List ℕ
columns_of t = flat_map (λ c. filled COLUMN.now (c.now ∷ [])) t.columns.now

-- one with some rows
abbrev pub some_of : {X : Type 0} → (X → List ℕ) → Table → List X → List ℕ
some_of row t xs = caption_of t ++ (columns_of t ++ (ROWS.now ++ (flat_map row xs ++ END.now)))

-- a table, with exactly these rows in order, or its line of none
unfoldable pub table_text : {X : Type 0} → (X → List ℕ) → Table → List X → List ℕ
table_text row t [] = none_of t
table_text row t (x ∷ xs) = some_of row t (x ∷ xs)

-- ---- pages

-- a table that is shown: its text, and how many rows it has
abbrev pub shown : {X : Type 0} → (X → List ℕ) → Table → List X → List ℕ × ℕ
shown row t xs = (table_text row t xs, length xs)

-- the texts of tables, one after another
abbrev pub texts : List (List ℕ × ℕ) → List ℕ
texts ts = flat_map (λ t. t.0) ts

-- with the rows of tables more, as far as the count goes
abbrev pub and_rows : ℕ → List (List ℕ × ℕ) → ℕ
and_rows n ts = fold (λ n t. min (n + t.1) (2 ^ 64 - 1)) n ts

-- tables were added to a page
pub record HasMore (ts : List (List ℕ × ℕ)) (old new : Page) : Type 0 where
  pub text : new.text.items ≡ old.text.items ++ texts ts
  pub rows : new.rows ≡ and_rows old.rows ts
