use Rattle.cns_retransmit.proofs.Common.{sym, rules, arith, answers_always}
use Rattle.cns_retransmit.proofs.Ordered.{sorted_is}
use Rattle.cns_retransmit.proofs.choice.in_filling_order.Goals as goal

pub returns : goal.returns
returns g c =
    let up = c.sort_unstable_by_key.ensures.sorted (λ s. (record { 0 = s.age }, s.member)) (answers_always _ _ _ (λ f a r h k. search rules)) in
    sorted_is c.args.shorts.now c.sort_unstable_by_key.new.self.items c.requires (rw (sym c.in_ok-ordered.ensures.items) c.sort_unstable_by_key.ensures.permutation) (λ k d h. up k d (omega arith) h)
