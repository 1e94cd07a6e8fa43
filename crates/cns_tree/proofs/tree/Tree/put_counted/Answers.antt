use Rattle.cns_tree.proofs.Common.{ap, arith}
use Rattle.cns_tree.proofs.Counts.{put_counts}
use Rattle.cns_tree.proofs.Heights.{few_digits}
use Rattle.cns_tree.proofs.tree.Tree.put_counted.Goals as goal

pub invariant_of-self : goal.invariant_of-self
invariant_of-self g c = grind (arith, put_counts c.args.key c.args.value c.self.inside.root.0 c.put.result.side.0 c.args.spare.now c.put.new.spare c.self.invariant.rises)

pub invariant_of-self-else-len-held : goal.invariant_of-self-else-len-held
invariant_of-self-else-len-held g c = grind (arith, put_counts c.args.key c.args.value c.self.inside.root.0 c.put.result.side.0 c.args.spare.now c.put.new.spare c.self.invariant.rises)

pub returns-else-len-held-clause-count : goal.returns-else-len-held-clause-count
returns-else-len-held-clause-count g c =
    let few = few_digits _ _ (rw (c.replace-root.ensures.value, c.self.view_is) at c.put.ensures.shallow) in
    omega (arith, few, ap (λ s. s.1) c.replace-root.ensures.value)

pub returns-then-len-held-clause-count : goal.returns-then-len-held-clause-count
returns-then-len-held-clause-count g c =
    let few = few_digits _ _ (rw (c.replace-root.ensures.value, c.self.view_is) at c.put.ensures.shallow) in
    omega (arith, few, ap (λ s. s.1) c.replace-root.ensures.value)
