-- The names that most proofs of this crate cite, passed on from one place: those of proofs/Common.antt of cns_terms, its types, and this crate's words. Declares nothing.
pub use Rattle.std.proofs.Common.{Any, Bool, Contains, Equal, Greater, HoldsAt, Less, List, MatchOption, None, OnErr, Option, Ordering, Result, Some, [], ap, append-nil, append_assoc, arith, drop, false, filter, get_or, inl, inr, insert, is_eq, is_le, length, length-append, refl, rules, set, suc, sym, take, take-append-drop, true, unsigned_abs, zero, ℕ, ℤ, ◌&&◌, ◌*◌, ◌++◌, ◌+ℤ◌, ◌+◌, ◌<◌, ◌^◌, ◌∙◌, ◌∷◌, ◌≡◌, ◌≢◌, ◌≤◌, option_map, ◌-◌}
pub use Rattle.std.proofs.lemmas.Int.{to_z-of_z}
pub use Rattle.std.proofs.lemmas.Iterator.Search.{find_from_yields_List}
pub use Rattle.std.proofs.lemmas.List.{drop_more, take_rest}
pub use Rattle.std.proofs.lemmas.List.Elements.{Contains-push_cases, filter_more, recursion_from_All}
pub use Rattle.std.specs.FinMap.{find, put}
pub use Rattle.cns_terms.proofs.Common.{AllByRecursion, AllWithin, Contains-get_or, IsNonDecreasingBy, IsPartitionPoint, IsPartitionPoint-from_clause, IsTotalOrder, YieldsFirst, YieldsList-from_shown, below_all, cases_lt, equal, exact_keys, filter-append, filter_map-append, find_filter, ints, is_sorted, key_after, key_cmp, keys_total, less, nat_tests, next_above, ordering_index, same_key, sorted_filter, take_more}
pub use Rattle.cns_terms.specs.declared.holding.Holding.{Holding}
pub use Rattle.cns_terms.specs.declared.holding.Key.{Key}
pub use Rattle.cns_positions.specs.Rows.{AreNext, Rows, aged, booked, closed_rows, entry_of, has_row, held_above, holding_at, is_held, last_of, present, rolled, with_age, zeros}
pub use Rattle.cns_positions.specs.Steps.{Map, StepFits, SumsFit, after_step, nowhere, replies, reply_to}
pub use Rattle.cns_positions.specs.declared.steps.Step.{Step}
