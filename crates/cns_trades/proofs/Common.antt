-- The names that most proofs of this crate cite, passed on from one place. Declares nothing.
pub use Rattle.std.proofs.Common.{Bool, FitsSigned, List, None, Option, Some, ap, append-nil, arith, bit_or, cond, drop, eqb, false, filter, is_eq, length, not, of_z, rules, sym, take, take_all, to_z, true, unsigned_abs, unwrap_or, w64, ℕ, ℤ, ◌%◌, ◌*◌, ◌++◌, ◌+◌, ◌<◌, ◌==◌, ◌^◌, ◌||◌, ◌∙◌, ◌≡◌, ◌≤◌}
pub use Rattle.cns_terms.proofs.Common.{AllByRecursion, added-each, drop_all, each_filter, each_weaker, equal, exact_keys, fits_signed_from_abs, is_not_after, is_past, is_too_far, key_cmp, lookup, nat_tests, pend_of, position_limit, same_key, shares_limit}
pub use Rattle.cns_terms.specs.Pending.{is_due}
pub use Rattle.cns_terms.specs.declared.holding.Key.{Key}
pub use Rattle.cns_terms.specs.declared.pend.Pend.{Pend}
pub use Rattle.cns_trades.specs.Checks.{book_answer, party, trade_answer}
pub use Rattle.cns_trades.specs.Sides.{SidesByKey, bought_key, has_sides, less, more, no_sides, sides_at, sides_by, sides_of, sold_key}
pub use Rattle.cns_trades.specs.Used.{has_bit, is_used}
pub use Rattle.cns_trades.specs.declared.sides.Sides.{Sides}
