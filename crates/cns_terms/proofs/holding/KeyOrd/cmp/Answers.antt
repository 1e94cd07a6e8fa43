use Rattle.cns_terms.proofs.Common.{◌∙◌, ap, nat_cmp, ordering_then, pairs_cmp}
use Rattle.cns_units.proofs.CusipOrder.{cusips_order}
use Rattle.cns_terms.proofs.holding.KeyOrd.cmp.Goals as goal

pub returns : goal.returns
returns c =
    let one = c.args.self.now in
    let two = c.args.other.now in
    c.cmp.ensures
    ∙ (λ i. nat_cmp (c.number.ensures.exact i) (c.number-2.ensures.exact i))
    ∙ pairs_cmp one.account two.account _ _ c.number.ensures.small c.number-2.ensures.small
    ∙ ap (ordering_then (nat_cmp one.account two.account)) (cusips_order one.issue two.issue c.number.ensures.valid c.number-2.ensures.valid)
