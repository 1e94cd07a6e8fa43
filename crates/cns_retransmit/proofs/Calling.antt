-- What a short changes, and the batches that come of the calls.
-- For `short` and `choose` of calls.rt.
use Rattle.cns_retransmit.proofs.Common.{Option, ◌≡◌, refl, true, cond, List, [], ◌∷◌, Some, arith, bytes_eq, option_map, nat_cmp, is_eq, CalledIn, Cusip, RiseByIssue, Short, batches_of, below_all, by_issue, bytes_eq-Decides, is_eq-slice_cmp, is_sorted, slice_cmp, with_short}

-- a short more in one issue
pub short_more : (old : Cusip → Option CalledIn) (k c : Cusip) (s : Short) (x y : CalledIn) → old k ≡ Some x → y ≡ with_short s x → cond (is_eq (slice_cmp nat_cmp k c)) (Some y) (old c) ≡ cond (bytes_eq k c) (option_map (with_short s) (old c)) (old c)
short_more old k c s x y found is = grind (arith, is_eq-slice_cmp k c, bytes_eq-Decides)

below_batches : (k : Cusip) (es : List (Cusip × CalledIn)) → below_all (slice_cmp nat_cmp) k es ≡ true → below_all (slice_cmp nat_cmp) k (by_issue (batches_of es)) ≡ true
below_batches k [] h = refl
below_batches k (e ∷ es) h = grind (arith, below_batches k es)

-- the batches rise as the issues do
pub batches_rise : (es : List (Cusip × CalledIn)) → is_sorted (slice_cmp nat_cmp) es ≡ true → RiseByIssue (batches_of es)
batches_rise [] s = refl
batches_rise (e ∷ es) s = grind (arith, below_batches e.0 es, batches_rise es)
