use Rattle.cns_day.proofs.Common.{◌≡◌, ◌++◌, [], ◌∷◌, take, flat_map}
use Rattle.cns_day.proofs.liable.gather_batch.Given as goal

abbrev pub invariant-loop-liable : goal.invariant-loop-liable
invariant-loop-liable l = l.owing.items ≡ l.initial.owing.items ++ flat_map (λ x. record { day = l.fn.day; issue = l.issue; liable = x } ∷ []) (take l.liable-index l.liable-items)
