-- What is known of a subtree d once its top is a node.
-- For `get`, `get_two`, `first_above` and `first_at_or_after` of node.rt and others.
use Rattle.cns_tree.proofs.Common.{◌≡◌, ℕ, List, length, Box, Option, Some, Ordering, false, cond, is_eq, is_lt, sym, ap, ◌∙◌, Less, Equal, Greater, key_cmp, keys_total, find, Key, rows, height, rows_and_height, IsBalanced, IsBalancedNode, IsShallow, Node, arith}
use Rattle.cns_tree.proofs.Heights.{shallow_none}
use Rattle.cns_tree.proofs.Rows.{find_left, find_right}

-- the rows and the height of d are the node's, and the node is balanced
pub record AtNode {V A : Type 0} (d : List (Key × V) × ℕ) (n : Node V A) : Type 0 where
  pub rows_are : d.0 ≡ rows n
  pub height_is : d.1 ≡ height n
  pub balanced : IsBalancedNode n

-- and at the node in it
pub at_node : {V A : Type 0} {top : Option (Box (Node V A) A)} {d : List (Key × V) × ℕ} {b : Box (Node V A) A} {n : Node V A} → rows_and_height top ≡ d → IsBalanced top → top ≡ Some b → n ≡ b.value → AtNode d n
at_node {d = d} view_is balanced is same = grind arith

-- a subtree has few levels
pub shallow_top : {V A : Type 0} {d : List (Key × V) × ℕ} (top : Option (Box (Node V A) A)) → rows_and_height top ≡ d → IsBalanced top → IsShallow (length d.0) d.1
shallow_top top h1 h2 = grind (arith, length, shallow_none)

-- a key that isn't the node's is found on the side to which it stands
pub found_aside : {V A : Type 0} (k : Key) {d : List (Key × V) × ℕ} (n : Node V A) (s : List (Key × V) × ℕ) (r : Ordering) → AtNode d n → r ≡ key_cmp k n.key → is_eq r ≡ false → s ≡ cond (is_lt r) n.left n.right → find key_cmp k d.0 ≡ find key_cmp k s.0
found_aside k n s Less at order apart side = ap (find key_cmp k) at.rows_are ∙ find_left key_cmp keys_total k _ _ _ (sym order) at.balanced.rises ∙ ap (λ s. find key_cmp k s.0) (sym side)
found_aside k n s Equal at order apart side = cc
found_aside k n s Greater at order apart side = ap (find key_cmp k) at.rows_are ∙ find_right key_cmp keys_total k _ _ _ (sym order) at.balanced.rises ∙ ap (λ s. find key_cmp k s.0) (sym side)
