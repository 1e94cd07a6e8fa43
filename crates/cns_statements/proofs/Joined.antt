-- Workers of a packing, one after another.
-- For `join_all`, `start_all` and `gather` of workers.rt.
use Rattle.cns_statements.proofs.Common.{◌≡◌, sym, refl, ◌<◌, List, [], ◌∷◌, ◌++◌, Vec, length, drop, map, arith, append_assoc, drop_more, slice_index_or, flat_map, Account, DaySheet, PromisedHandle, map-append, Global, statement_on, AllAre, told, told_by}
use Rattle.cns_statements.specs.declared.contents.Statement.{Statement}
use Rattle.cns_statements.specs.declared.workers.Makes.{Makes}

-- what one thread more handed back
pub told_more : {T : Type 0} (done made whole : List (Statement Global)) (old new : List (PromisedHandle T Makes)) (h : PromisedHandle T Makes)
    → done ++ told old ≡ whole → 0 < length old → h ≡ slice_index_or old 0 h → new ≡ drop 1 old → made ≡ told_by h → (done ++ made) ++ told new ≡ whole
told_more done made whole old new h is some first rest by = grind (arith, append_assoc, drop_more old 0 h)

-- threads that have the parts promise the statements of all accounts
pub told_all : {T : Type 0} (s : DaySheet) (ps : List (Vec Account Global)) (hs : List (PromisedHandle T Makes)) → AllAre s ps hs → told hs ≡ map (statement_on s) (flat_map (λ p. p.items) ps)
told_all s [] [] all = refl
told_all s (p ∷ ps) (h ∷ hs) all = rw (all.0, all.1, told_all s ps hs all.2) (sym (map-append (statement_on s) p.items (flat_map (λ q. q.items) ps)))
told_all s _ _ all = absurd all
