-- Lists that are gathered item by item.
-- For `lines_of` of summary.rt; `later_shares` of due.rt; `gather` and `gather_batch` of liable.rt; `gather` of projection.rt.
use Rattle.cns_day.proofs.Common.{◌≡◌, ◌∙◌, sym, ap, List, [], ◌∷◌, map, fold, ℕ, ◌+◌, ◌++◌, append-nil, arith, Option, Some, append_assoc, filter-append, filter_map-append, later_among, Account, Day, DaySheet, Row, grouped, ◌<◌, get_or, length, None, take, get, fold-append, take_next, key_cmp, AreLater, with_due, ◌≤◌, flat_map, flat_map_more, take_all, lines_after}
use Rattle.cns_account.specs.declared.day_moves.DayMoves.{DayMoves}
use Rattle.cns_day.specs.declared.summary.SheetLine.{SheetLine}
use Rattle.cns_day.specs.declared.due.Later.{Later}
use Rattle.cns_terms.specs.declared.holding.Key.{Key}
use Rattle.cns_day.specs.declared.projection.Due.{Due}
use Rattle.cns_terms.specs.declared.history.Taken.{Taken}
use Rattle.std.proofs.lemmas.List.Concat.{flat_map_single}

-- one more row
pub lines_more : (s : DaySheet) (ms : DayMoves) (before : Option Account) (all items new : List SheetLine) (left : List Row) (r : Row) (rest : List Row) → left ≡ r ∷ rest
    → new ≡ items ++ grouped s ms before r → all ≡ items ++ lines_after s ms before left → all ≡ new ++ lines_after s ms (Some r.account) rest
unfolding lines_after
lines_more s ms before all items new left r rest h1 h2 h3 = grind (arith, lines_after, append_assoc, grouped)

-- no row is left
pub lines_end : (s : DaySheet) (ms : DayMoves) (before : Option Account) (all items : List SheetLine) (left : List Row) → left ≡ [] → all ≡ items ++ lines_after s ms before left → items ≡ all
unfolding lines_after
lines_end s ms before all items left none was = sym (was ∙ ap (λ rs. items ++ lines_after s ms before rs) none ∙ append-nil items)

-- the trades that are dated after a day, of some entries and another
pub later_more : (day : Day) (ts : List Taken) (t : Taken) → later_among day (ts ++ t ∷ []) ≡ later_among day ts ++ later_among day (t ∷ [])
later_more day ts t = simp (filter_map-append, filter-append)

-- one trade more
pub due_more : (ds : List Due) (i : ℕ) (d : Due) (old new : Later) → i < length ds → get_or ds i d ≡ d
    → ((k : Key) → get key_cmp new.shares k ≡ with_due k (get key_cmp old.shares k) d) → AreLater (take i ds) old → AreLater (take (i + 1) ds) new
due_more ds i d old new lt at is was k =
    is k ∙ ap (λ o. with_due k o d) (was k) ∙ sym (fold-append (with_due k) None (take i ds) (d ∷ [])) ∙ ap (fold (with_due k) None) (sym (take_next ds i d lt (sym at)))

-- what one element more gives is added
pub gathered : {X Y : Type 0} (f : X → List Y) (xs : List X) (i : ℕ) (x : X) (old items new : List Y) → i < length xs → get_or xs i x ≡ x → items ≡ old ++ flat_map f (take i xs)
    → new ≡ items ++ f x → new ≡ old ++ flat_map f (take (i + 1) xs)
gathered f xs i x old items new h1 h2 h3 h4 = grind (arith, flat_map_more, take, flat_map, take_next)

-- all were added, one for each element
pub gathered_all : {X Y : Type 0} (f : X → Y) (xs : List X) (i : ℕ) (old items : List Y) → length xs ≤ i → items ≡ old ++ flat_map (λ x. f x ∷ []) (take i xs) → items ≡ old ++ map f xs
gathered_all f xs i old items all was = was ∙ ap (λ ys. old ++ ys) (ap (flat_map (λ x. f x ∷ [])) (take_all i xs all) ∙ flat_map_single f xs)
