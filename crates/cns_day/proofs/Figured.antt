-- Lists that are sorted by a key.
-- For `shorts_of` of shorts.rt, `dues_of` of projection.rt.
use Rattle.cns_day.proofs.Common.{◌≡◌, List, arith, IsPermutation, IsSortedByKeyClosure, IsStableByKeyClosure, always_returns_same, IsInOrderOf}
use Rattle.std.specs.Fn.{Called}
use Rattle.std.specs.declared.cmp.Ordering.{Ordering}
use denote.Param.Members.{Mut}
use denote.Ref.{Bor}

-- where each call of the closure gives the key of the element, and leaves the closure as it was
pub sorted_by_key : {X K F : Type 0} (key : X → K) (cmp : K → K → Ordering) {g : Mut F (Bor X × Unit {0}) K} {f : F} (xs ys all : List X) → xs ≡ all → IsPermutation xs ys
    → IsSortedByKeyClosure g cmp f ys → IsStableByKeyClosure g cmp f xs ys → ((a : Bor X × Unit {0}) (r : K) (f' : F) → Called g f a r f' → (r ≡ key a.0.now) × (f' ≡ f)) → IsInOrderOf key cmp all ys
sorted_by_key key cmp xs ys all h1 h2 h3 h4 h5 = grind (arith, always_returns_same)
