-- The lines of workers, written one after another.
-- For `write_ends` of outcome.rt.
use Rattle.cns_program.proofs.Common.{◌≡◌, ℕ, ◌+◌, ◌<◌, List, ◌++◌, Option, get_or, length, drop, add-one, drop-cons, append_assoc, refl, sym, Appends, AppendsFront, front_longer, Appends-trans, End, end_line, end_lines, whole}
use Rattle.cns_units.proofs.OutputLemmas.{front_later}

-- the lines from a place on are that of its worker and those after it
line_at : (es : List End) (i : ℕ) (d : End) → i < length es → end_lines (i + 1) (drop i es) ≡ end_line (i + 1) (get_or es i d) ++ end_lines (i + 1 + 1) (drop (i + 1) es)
line_at es i d lt = rw (add-one, drop-cons es i d lt) refl

-- one more line was written
pub lines_more : (old mid new : Option (List ℕ)) (es : List End) (i : ℕ) (d : End) (done : List ℕ) → i < length es
    → end_lines 1 es ≡ done ++ end_lines (i + 1) (drop i es) → Appends old mid done → Appends mid new (end_line (i + 1) (get_or es i d))
    → (more : List ℕ) × (end_lines 1 es ≡ more ++ end_lines (i + 1 + 1) (drop (i + 1) es)) × Appends old new more
lines_more old mid new es i d done lt whole a b = (done ++ end_line (i + 1) (get_or es i d), rw (whole, line_at es i d lt) (sym (append_assoc done _ _)), Appends-trans old mid new done _ a b)

-- writing a line failed: a prefix of all lines was written
pub lines_failed : (old mid new : Option (List ℕ)) (es : List End) (i : ℕ) (d : End) (done : List ℕ) → i < length es
    → end_lines 1 es ≡ done ++ end_lines (i + 1) (drop i es) → Appends old mid done → AppendsFront mid new (end_line (i + 1) (get_or es i d)) → AppendsFront old new (end_lines 1 es)
lines_failed old mid new es i d done lt whole a b =
    rw (whole, line_at es i d lt) (front_later old mid new done (end_line (i + 1) (get_or es i d) ++ end_lines (i + 1 + 1) (drop (i + 1) es)) a (front_longer mid new (end_line (i + 1) (get_or es i d)) (end_lines (i + 1 + 1) (drop (i + 1) es)) b))
