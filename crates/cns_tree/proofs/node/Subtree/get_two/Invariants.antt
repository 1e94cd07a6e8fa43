use Rattle.cns_tree.proofs.Common.{◌≡◌, length, key_cmp, find}
use Rattle.cns_tree.proofs.node.Subtree.get_two.Given as goal

-- each key is found on the side that is left of its way
abbrev pub invariant-loop-first_side : goal.invariant-loop-first_side
invariant-loop-first_side g l =
    (find key_cmp l.first l.self.0 ≡ find key_cmp l.first l.first_side.0)
    × (find key_cmp l.second l.self.0 ≡ find key_cmp l.second l.second_side.0)

abbrev pub decreases-loop-first_side : goal.decreases-loop-first_side
decreases-loop-first_side g l = length l.first_side.0
