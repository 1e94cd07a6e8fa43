-- The names that most proofs cite, passed on from one place. Declares nothing.
pub use Rattle.std.proofs.Common.{Bool, Bor, Box, Equal, Greater, IfSome, IsSome, Less, List, MatchOption, None, Option, Ordering, Some, [], ap, append-nil, append_assoc, arith, cond, false, filter, is_eq, is_lt, is_some, length, length-append, max, not, option_to_list, pow_mono, refl, rules, subst, suc, sym, true, zero, ℕ, ◌&&◌, ◌*◌, ◌++◌, ◌+◌, ◌-◌, ◌/◌, ◌<◌, ◌^◌, ◌∙◌, ◌∷◌, ◌≡◌, ◌≤◌, ◌⊎◌}
pub use Rattle.std.specs.FinMap.{find, put}
pub use Rattle.cns_terms.proofs.Common.{IsTotalOrder, and_left, and_right, below_all, binary_digits, is_sorted, key_after, key_cmp, keys_total, less, option_or, tied_itself}
pub use Rattle.cns_terms.specs.declared.holding.Key.{Key}
unfoldable pub use Rattle.cns_tree.specs.Changes.{ChangesEach}
pub use Rattle.cns_tree.specs.Changes.{ChangesAt}
unfoldable pub use Rattle.cns_tree.specs.Pending.{rows_pending}
pub use Rattle.cns_tree.specs.Pending.{IsFront, IsOnItsWay, AreNodes, rows_from}
pub use Rattle.cns_tree.specs.Search.{is_above, is_after, is_at_or_after}
pub use Rattle.cns_tree.specs.Shape.{IsBalanced, IsBalancedNode, IsLean, IsShallow, height, rows, rows_and_height}
pub use Rattle.cns_tree.specs.declared.node.Node.{Node}
pub use Rattle.std.specs.List.{find as first}
