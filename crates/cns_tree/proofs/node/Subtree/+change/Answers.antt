use Rattle.cns_tree.proofs.Common.{arith}
use Rattle.cns_tree.proofs.Changed.{changed_left, changed_middle, changed_right, kept_at}
use Rattle.cns_tree.proofs.Heights.{shallow_kept}
use Rattle.cns_tree.proofs.Nodes.{at_node}
use Rattle.cns_tree.proofs.node.Subtree.+change.Given as given
use Rattle.cns_tree.proofs.node.Subtree.+change.Goals as goal

pub invariant_of-self-then-is_eq : goal.invariant_of-self-then-is_eq
invariant_of-self-then-is_eq g t c =
    let at = at_node c.self.view_is c.self.invariant c.in-Some.is c.deref_mut-node.ensures.value in
    let p = changed_middle (given.F-post g c.args.change) c.args.probe.now.0 _ _ _ _ at.rows_are at.balanced.rises _ (grind arith) c.change-node.ensures in
    grind (arith, at, p, kept_at (given.F-post g c.args.change), shallow_kept)

pub returns-then-is_eq-clause-rows : goal.returns-then-is_eq-clause-rows
returns-then-is_eq-clause-rows g t c =
    let at = at_node c.self.view_is c.self.invariant c.in-Some.is c.deref_mut-node.ensures.value in
    (changed_middle (given.F-post g c.args.change) c.args.probe.now.0 _ _ _ _ at.rows_are at.balanced.rises _ (grind arith) c.change-node.ensures).rows

pub invariant_of-self-then-is_lt : goal.invariant_of-self-then-is_lt
invariant_of-self-then-is_lt g t c =
    let at = at_node c.self.view_is c.self.invariant c.in-Some.is c.deref_mut-node.ensures.value in
    let p = changed_left (given.F-post g c.args.change) c.args.probe.now.0 _ _ _ _ at.rows_are at.balanced.rises c.change.new.self.0 (grind arith) (grind arith) in
    grind (arith, at, p, kept_at (given.F-post g c.args.change), shallow_kept)

pub returns-then-is_lt-clause-rows : goal.returns-then-is_lt-clause-rows
returns-then-is_lt-clause-rows g t c = grind (arith, at_node, changed_left (given.F-post g c.args.change))

pub invariant_of-self-2 : goal.invariant_of-self-2
invariant_of-self-2 g t c =
    let at = at_node c.self.view_is c.self.invariant c.in-Some.is c.deref_mut-node.ensures.value in
    let p = changed_right (given.F-post g c.args.change) c.args.probe.now.0 _ _ _ _ at.rows_are at.balanced.rises c.change-2.new.self.0 (grind arith) (grind arith) in
    grind (arith, at, p, kept_at (given.F-post g c.args.change), shallow_kept)

pub returns-clause-rows : goal.returns-clause-rows
returns-clause-rows g t c = grind (arith, at_node, changed_right (given.F-post g c.args.change))
