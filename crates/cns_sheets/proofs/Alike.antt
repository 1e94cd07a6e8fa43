-- Rows of two sheets, side by side.
-- For `same_rows` of same.rt.
use Rattle.cns_sheets.proofs.Common.{◌≡◌, true, false, List, ◌∷◌, ◌++◌, arith}
use Rattle.std.proofs.lemmas.List.{append_cancel_left}

-- after the same rows, another row makes other rows
pub other_row : {X : Type 0} (one other ys s t : List X) (x y : X) → one ≡ ys ++ x ∷ s → other ≡ ys ++ y ∷ t → (y ≡ x → false ≡ true) → (false ≡ true → one ≡ other) × (one ≡ other → false ≡ true)
other_row one other ys s t x y p q n = grind (arith, append_cancel_left ys (x ∷ s) (y ∷ t))
