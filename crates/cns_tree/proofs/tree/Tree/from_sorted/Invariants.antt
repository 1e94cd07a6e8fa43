use Rattle.std.proofs.Common.{◌≡◌, take}
use Rattle.cns_tree.proofs.tree.Tree.from_sorted.Given as goal

abbrev pub invariant-loop-key : goal.invariant-loop-key
invariant-loop-key g l = l.builder ≡ take l.key-index l.rows
