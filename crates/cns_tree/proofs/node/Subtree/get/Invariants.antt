use Rattle.cns_tree.proofs.Common.{◌≡◌, ◌+◌, ◌≤◌, length, key_cmp, find}
use Rattle.cns_tree.proofs.node.Subtree.get.Given as goal

-- the key stays, it is found on the side that is left, and there are comparisons for as many levels as that has
abbrev pub invariant-loop-side : goal.invariant-loop-side
invariant-loop-side g l =
    let key = l.fn.probe.0 in
    (find key_cmp key l.self.0 ≡ find key_cmp key l.side.0)
    × (l.probe.0 ≡ key)
    × (l.probe.1 + l.side.1 ≤ l.fn.probe.1 + l.self.1)

abbrev pub decreases-loop-side : goal.decreases-loop-side
decreases-loop-side g l = length l.side.0
