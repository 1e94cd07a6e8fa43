-- Facts of a list, one by one.
-- For `facts_of` of facts.rt.
use Rattle.std.proofs.Common.{ℕ, zero, suc, ◌<◌, List, [], ◌∷◌, Option, IfSome, arith, length, slice_index_or}
use Rattle.cns_exceptions.specs.Facts.{AreShown, IsShown}
use Rattle.cns_exceptions.specs.declared.finding.Fact.{Fact}
use Rattle.cns_book.specs.Log.{Log}
use Rattle.cns_terms.specs.declared.action.Exchange.{Exchange}
use Rattle.cns_terms.specs.declared.refusal.Refusal.{Refusal}

-- the one at a place
pub shown_at : (xs : List Exchange) (log : Log) (r : Refusal) (fs : List (Option Fact)) (i : ℕ) (d : Option Fact) → AreShown xs log r fs → i < length fs
    → IfSome (slice_index_or fs i d) (IsShown xs log r)
shown_at xs log r [] i d all lt = absurd (omega (arith, lt))
shown_at xs log r (f ∷ fs) zero d all lt = all.0
shown_at xs log r (f ∷ fs) (suc i) d all lt = shown_at xs log r fs i d all.1 (omega (arith, lt))
