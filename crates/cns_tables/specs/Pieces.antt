-- The texts of the pieces of a page.
use Rattle.std.specs.Prelude.{ℕ, pos, ◌==◌, if◌then◌else◌, List, [], ◌∷◌, ◌++◌, None, Some, codes, true, false}
use Rattle.std.specs.Fmt.{decimal}
use Rattle.std.specs.List.{flat_map}
use Rattle.cns_units.specs.Day.{day_text}
use Rattle.cns_tables.specs.Escape.{escaped}
use Rattle.cns_tables.specs.Grouped.{amount_text, count_text, rate_text, signed_text}
use Rattle.cns_tables.specs.declared.piece.Piece.{Piece}

-- the text of a piece: the page's own bytes as they are, a stranger's escaped
abbrev pub piece_text : Piece → List ℕ
piece_text (Piece.Markup m) = m.now
piece_text (Piece.Text t) = escaped t.now
piece_text (Piece.Issue c) = escaped c
piece_text (Piece.Number n) = decimal n
piece_text (Piece.Count n) = count_text n
piece_text (Piece.Signed z) = signed_text z
piece_text (Piece.Position (Some z)) = signed_text z
piece_text (Piece.Position None) = codes "none"
piece_text (Piece.Amount z) = amount_text z
piece_text (Piece.Price (Some p)) = amount_text (pos p)
piece_text (Piece.Price None) = codes "not listed"
piece_text (Piece.Rate r) = rate_text r
piece_text (Piece.Booked true) = codes "booked"
piece_text (Piece.Booked false) = codes "pending"
piece_text (Piece.Date d) = day_text d

-- a form with its blanks, each a `_`, filled by texts in order; texts for which there is no blank stand at the end, and blanks for
-- which there is no text stay
unfoldable pub filled : List ℕ → List (List ℕ) → List ℕ
filled [] texts = flat_map (λ t. t) texts
filled (b ∷ form) [] = b ∷ form
filled (b ∷ form) (t ∷ texts) = if b == 95 then t ++ filled form texts else b ∷ filled form (t ∷ texts)
