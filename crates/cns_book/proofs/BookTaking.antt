-- One command more in the history, whose entries keep their replies when one is added to the others.
-- For `take` of book.rt, clause ok, and `add_reply` and `push` of history.rt.
use Rattle.cns_book.proofs.Common.{◌≡◌, sym, ap, subst, ℕ, ◌+◌, ◌-◌, ◌≤◌, ◌<◌, cond, eqb, List, [], ◌∷◌, ◌++◌, length, set, get_or, Ok, arith, get_or-set_other, Command, Contents, Day, Follows, HasRoom, IsLegal, Reply, Taken, accepted, answer_to, count, history_limit, nat_tests, sum_by-cons, accepted_after, Steps, refl, map, length-append, unwrap_or-slice_get, AreAmong, Stays, taken_in}
use Rattle.std.proofs.lemmas.Grind.{get_or-set_at}
use Rattle.cns_terms.specs.declared.worker.Worker.{Worker}
use Rattle.cns_book.specs.Legal.{IsBook}
use Rattle.std.proofs.lemmas.List.{map-append}
use Rattle.std.proofs.Math.ListN.{get_or-append}
use Rattle.cns_book.specs.declared.history.Brief.{Brief}

-- one reply more
pub longer : (rs : List Reply) (r : Reply) → Stays rs (rs ++ r ∷ [])
longer rs r [] all = (tt, refl)
longer rs r (b ∷ bs) all = grind (arith, length-append, unwrap_or-slice_get, get_or-append, longer rs r bs all.1)

-- one entry more
pub taken_more : (old new : List Reply) (bs : List Brief) (b : Brief) → Stays old new → AreAmong old bs → map (taken_in new) (bs ++ b ∷ []) ≡ map (taken_in old) bs ++ taken_in new b ∷ []
taken_more old new bs b stays all = grind (arith, map-append, (stays bs all).1)

-- no more activities than commands
pub accepted_le : (opening : Day) (H : List Taken) → length (accepted opening H) ≤ length H
accepted_le opening [] = omega arith
accepted_le opening (t ∷ H) = grind (arith, accepted_le opening H)

-- a book's accepted activities are few
pub few_accepted : (limit : ℕ) (H : List Taken) (counts : List ℕ) (parts : Contents) → IsBook limit H counts parts → length (accepted parts.opening H) < history_limit
few_accepted limit H counts parts b = omega (arith, accepted_le parts.opening H, b.few, b.limited)

-- below its limit a book has room for one command more
pub has_room : (limit : ℕ) (H : List Taken) (counts : List ℕ) (s : Contents) → IsBook limit H counts s → length H < limit → HasRoom s
has_room limit H counts s b few = grind (arith, accepted_le)

-- a command that found no memory
pub book_stays : (limit : ℕ) (H : List Taken) (counts : List ℕ) (s s' : Contents) → IsBook limit H counts s → s'.opening ≡ s.opening → Follows (accepted s.opening H) s' → IsBook limit H counts s'
book_stays limit H counts s s' b same f = grind (arith, b, f)

-- a command that was taken
pub book_grows : (limit : ℕ) (H : List Taken) (counts : List ℕ) (s s' : Contents) (w : Worker) (cmd : Command) (r : Reply) → IsBook limit H counts s → length H < limit → 1 ≤ w → w ≤ 64 → length counts ≡ 64 → s'.opening ≡ s.opening → Steps (accepted s.opening H) cmd (Ok r) s'
    → IsBook limit (record { worker = w; seq = get_or counts (w - 1) 0 + 1; command = cmd; reply = r } ∷ H) (set counts (w - 1) (get_or counts (w - 1) 0 + 1)) s'
book_grows limit H counts s s' w cmd r b few low high len same step = record {
  few = omega (arith, few);
  limited = b.limited;
  legal = subst (λ o. (r ≡ answer_to s'.opening (accepted o H) cmd) × (get_or counts (w - 1) 0 + 1 ≡ (count H w + 1)) × IsLegal o H) (sym same) (step.0, ap (λ n. n + 1) (b.counted w low high), b.legal);
  counted = λ v p q. grind (arith, nat_tests, get_or-set_at counts (w - 1) (v - 1) (get_or counts (w - 1) 0 + 1) 0, get_or-set_other counts (w - 1) (v - 1) (get_or counts (w - 1) 0 + 1) 0, b.counted v p q, sum_by-cons (λ (t : Taken). cond (eqb t.worker v) 1 0) (record { worker = w; seq = get_or counts (w - 1) 0 + 1; command = cmd; reply = r }) H);
  follows = subst (λ o. Follows (accepted_after s'.opening (accepted o H) cmd) s') (sym same) step.1;
}
