-- One worker more that was joined.
-- For `join_all` of threads.rt, `run_audited` of run.rt.
use Rattle.cns_desk.proofs.Common.{◌≡◌, ap, refl, Bool, ℕ, suc, ◌≤◌, ◌⊎◌, ◌↔◌, inl, inr, ◌<◌, List, [], ◌∷◌, ◌++◌, length, drop, Option, arith, append_assoc, IfSome, slice_index_or, AllByRecursion, PromisedHandle, Told, cases_lt, Logged, promised, HaveRun, Worked, AreFresh, IsFresh, Sitting, fresh}
use Rattle.std.proofs.ByRecursion.{All-from_get_or}
use Rattle.cns_desk.specs.declared.end.End.{End}
use Rattle.cns_desk.specs.declared.threads.Works.{Works}

-- one worker more has run
pub run_more : {S : Type 0} (fails : Bool) (told : S → Option Told) (ss : List S) (ls : List Logged) (es : List End) (s : S) (l : Logged) (e : End) → HaveRun fails told ss ls es → IfSome (told s) (λ t. Worked fails t l e) → HaveRun fails told (ss ++ s ∷ []) (ls ++ l ∷ []) (es ++ e ∷ [])
run_more fails told [] [] [] s l e h k = (k, tt)
run_more fails told (a ∷ ss) (b ∷ ls) (c ∷ es) s l e h k = (h.0, run_more fails told ss ls es s l e h.1 k)
run_more fails told _ _ _ s l e h k = absurd h

-- the sources of what was joined and of what is left
pub sources_same : {T S : Type 0} (done all : List S) (old new : List (PromisedHandle T (Works S))) (h : PromisedHandle T (Works S)) → done ++ promised old ≡ all → 0 < length old → h ≡ slice_index_or old 0 h → new ≡ drop 1 old
    → (done ++ h.promise.0.value ∷ []) ++ promised new ≡ all
sources_same done all old new h is some first rest = grind (arith, append_assoc)

-- there is a log for each source
pub run_len : {S : Type 0} (fails : Bool) (told : S → Option Told) (ss : List S) (ls : List Logged) (es : List End) → HaveRun fails told ss ls es → length ls ≡ length ss
run_len fails told [] [] [] h = refl
run_len fails told (a ∷ ss) (b ∷ ls) (c ∷ es) h = ap suc (run_len fails told ss ls es h.1)
run_len fails told _ _ _ h = absurd h

-- under new seats nothing was taken
pub fresh_all : (n : ℕ) (seats : List Sitting) → AreFresh n seats → AllByRecursion IsFresh seats
fresh_all n seats (len, each) = All-from_get_or IsFresh seats (fresh 0) (λ k low. ap (λ (s : Sitting). s.count) (each k (omega (arith, low, len))))

-- what was not refused is at most 64
pub at_most : {R : Type 0} (n : ℕ) (ok err : R) → ((ok ≡ err) ↔ ((n < 1) ⊎ (64 < n))) → (ok ≡ err → ⊥) → n ≤ 64
at_most n ok err h apart = elim (cases_lt 64 n) [ inl more ↦ absurd (apart (h.1 (inr more))) | inr few ↦ few ]
