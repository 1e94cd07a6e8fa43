use Rattle.cns_tables.proofs.Common.{◌≡◌, ◌++◌, drop, map, piece_text, filled}
use denote.Shadow.{shadow}
use denote.Text.{Utf8}
use Rattle.cns_tables.proofs.piece.write_form.Given as goal

abbrev pub invariant-loop-piece : goal.invariant-loop-piece
invariant-loop-piece l = shadow (Utf8 l.rest)
    × (l.fn.out.items ++ filled l.form (map piece_text l.pieces) ≡ l.out.items ++ filled l.rest (map piece_text (drop l.piece-index l.pieces)))
