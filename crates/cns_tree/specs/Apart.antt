-- A node's box, with what the node was put together of.
use Rattle.std.specs.Prelude.{◌≡◌, ℕ, ◌+◌, max, List, ◌∷◌, ◌++◌, length, true}
use Rattle.cns_tree.specs.Common.{is_sorted, key_cmp, Key}
use Rattle.cns_tree.specs.Shape.{IsLean, IsShallow}
use Rattle.cns_tree.specs.declared.node.Parts.{Parts}

-- the parts of a subtree that is seen as d
pub record IsApart {V A : Type 0} (d : List (Key × V) × ℕ) (p : Parts V A) : Type 0 where
  pub rows_are : d.0 ≡ p.left.0 ++ (p.node.value.key, p.node.value.value) ∷ p.right.0
  pub height_is : d.1 ≡ max p.left.1 p.right.1 + 1
  pub rises : is_sorted key_cmp (p.left.0 ++ (p.node.value.key, p.node.value.value) ∷ p.right.0) ≡ true
  pub leans : IsLean p.lean p.left.1 p.right.1
  pub shallow : IsShallow (length d.0) d.1
