use Rattle.cns_book.proofs.Common.{List, Contains, subst, arith, Key}
use Rattle.cns_actions.proofs.Making.{others_stay}
use Rattle.cns_book.proofs.EffectEntries.{both_places}
use Rattle.cns_book.proofs.effect.prepare.Goals as goal

pub returns-in_err-prepare-clause-others : goal.returns-in_err-prepare-clause-others
returns-in_err-prepare-clause-others g c k apart =
    let are = both_places c.args.entries.now c.index-entries-0.result c.index-entries-1.result c.key.result c.key-2.result c.type_inv.entries c.key.ensures c.key-2.ensures in
    others_stay _ _ k (c.prepare.ensures.others k (λ h. apart (subst (λ (ks : List Key). Contains ks k) are h)))

pub returns-clause-others : goal.returns-clause-others
returns-clause-others g c k apart = grind (arith, both_places, others_stay)
