-- The names that most definitions of this crate cite, passed on from one place. Declares nothing.
pub use Rattle.cns_terms.specs.Common.{AllByRecursion, is_lt, is_sorted, key_after, key_cmp}
pub use Rattle.cns_terms.specs.declared.holding.Key.{Key}
pub use Rattle.cns_tree.specs.declared.node.Node.{Node}
