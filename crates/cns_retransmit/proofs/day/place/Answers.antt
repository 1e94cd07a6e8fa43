use Rattle.cns_retransmit.proofs.Common.{rules, arith, Liables, answers_always}
use Rattle.cns_retransmit.proofs.Sought.{comparisons_rise}
use Rattle.cns_retransmit.proofs.day.place.Goals as goal

pub returns : goal.returns
returns g c = let h = c.binary_search_by_key.ensures.position (λ (b : Liables). b.issue) (answers_always _ _ _ (λ f a r g called. search rules)) in grind (arith, comparisons_rise)
