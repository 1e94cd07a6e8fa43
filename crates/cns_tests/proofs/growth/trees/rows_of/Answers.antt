use Rattle.std.proofs.Common.{length, ap}
use Rattle.cns_terms.proofs.Common.{YieldsFirst, YieldsList-from_shown}
use Rattle.std.proofs.lemmas.Iterator.{items_from_collect}
use Rattle.cns_tests.proofs.growth.trees.rows_of.Goals as goal

pub returns : goal.returns
returns g c =
    let walked = YieldsList-from_shown (YieldsFirst (λ w. w)) (λ x. x) (λ w. w) (λ s t h. ap length h.0) (λ s x t h. h) c.walk.result in
    rw c.walk.ensures.rows at (items_from_collect c.collect.result c.collect.ensures.ran walked)
