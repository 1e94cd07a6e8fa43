-- What a node is seen as, and what holds of it.
use Rattle.std.specs.Prelude.{◌≡◌, ℕ, Box, ◌+◌, ◌*◌, ◌^◌, ◌<◌, ◌≤◌, max, List, [], ◌∷◌, ◌++◌, length, Option, Some, None, Bool, true, if◌then◌else◌}
use Rattle.cns_tree.specs.Common.{is_sorted, key_cmp, Key, Node}
use Rattle.cns_tree.specs.declared.node.Lean.{Lean}
use Rattle.cns_tree.specs.declared.node.Lean.TheVariants.{Left, Even, Right}

-- a node's rows in the order of their keys
abbrev pub rows : {V A : Type 0} → Node V A → List (Key × V)
rows n = n.left.0 ++ (n.key, n.value) ∷ n.right.0

-- how many nodes are on the longest way down from a node
abbrev pub height : {V A : Type 0} → Node V A → ℕ
height n = max n.left.1 n.right.1 + 1

-- a subtree's rows and height
abbrev pub rows_and_height : {V A : Type 0} → Option (Box (Node V A) A) → List (Key × V) × ℕ
rows_and_height None = ([], 0)
rows_and_height (Some b) = (rows b.value, height b.value)

-- which side is higher, if one is: by one level
abbrev pub IsLean : Lean → ℕ → ℕ → Type 0
IsLean Left l r = l ≡ r + 1
IsLean Even l r = l ≡ r
IsLean Right l r = r ≡ l + 1

-- how many levels higher
abbrev pub rise : Bool → ℕ
rise is_higher = if is_higher then 1 else 0

-- how two nodes lean that take the sides of a middle node between them
abbrev pub SplitsLean : Lean → Lean → Lean → Type 0
SplitsLean Left l r = (l ≡ Even) × (r ≡ Right)
SplitsLean Even l r = (l ≡ Even) × (r ≡ Even)
SplitsLean Right l r = (l ≡ Left) × (r ≡ Even)

-- at most two levels for each binary digit of the count of rows
pub record IsShallow (count height : ℕ) : Type 0 where
  pub levels : (d : ℕ) → count < 2 ^ d → height ≤ 2 * d

-- a node's keys strictly rise, and its sides' heights are the same or differ by one, as it says; so it has few levels
pub record IsBalancedNode {V A : Type 0} (n : Node V A) : Type 0 where
  pub rises : is_sorted key_cmp (rows n) ≡ true
  pub leans : IsLean n.lean n.left.1 n.right.1
  pub shallow : IsShallow (length (rows n)) (height n)

-- so is a subtree's top
abbrev pub IsBalanced : {V A : Type 0} → Option (Box (Node V A) A) → Type 0
IsBalanced None = Unit {0}
IsBalanced (Some b) = IsBalancedNode b.value
