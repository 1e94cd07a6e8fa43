-- The names that most proofs of this crate cite, passed on from one place. Declares nothing.
pub use Rattle.std.proofs.Common.{Bool, None, Option, Ordering, Some, [], arith, filter, int_cmp, length, nat_cmp, refl, suc, sym, ℕ, ◌<◌, ◌∷◌, ◌≡◌}
pub use Rattle.std.specs.BTreeMap.Range.{IsLeBy, IsLtBy}
pub use Rattle.std.specs.Bound.{IsForward}
pub use Rattle.std.specs.Ordering.{on, ord_min}
pub use Rattle.cns_terms.proofs.Common.{Day, Included, day_number, insert_entry, nat_tests, ordering_then, pays_before, range_contains}
pub use Rattle.cns_terms.specs.declared.action.Declared.{Declared}
pub use Rattle.cns_dividends.specs.Placed.{AreBelow, Placed, dividends_of}
