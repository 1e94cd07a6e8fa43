-- The names that most proofs of this crate cite, passed on from one place: those of proofs/Common.antt of cns_terms, its types, and this crate's words. Declares nothing.
pub use Rattle.std.proofs.Common.{Bool, Equal, FitsSigned, Greater, HoldsAt, Less, List, MatchOption, None, Option, Ordering, Some, [], ap, append-nil, append_assoc, arith, cond, drop, eqb-true, false, filter, get_or, if◌then◌else◌, int_eq, is_eq, is_lt, is_some, length, length-append, length-take, map, nat_cmp, neg_ℤ, not, of_z, option_copied, option_map, pos, refl, replicate, rules, slice_index, subst, sum_by, sym, take, take_all, to_z, true, unsigned_abs, unwrap_or, ℕ, ℤ, ◌&&◌, ◌*ℤ◌, ◌*◌, ◌++◌, ◌+ℤ◌, ◌+◌, ◌-ℤ◌, ◌-◌, ◌<◌, ◌==◌, ◌^◌, ◌∙◌, ◌∷◌, ◌≡◌, ◌≤◌}
pub use Rattle.std.proofs.lemmas.Int.{int_wrap-add_left, to_z-of_z}
pub use Rattle.std.proofs.lemmas.List.{drop_more, take-append-drop}
pub use Rattle.std.proofs.lemmas.List.Filters.{sum_by-filter_both}
pub use Rattle.std.proofs.lemmas.Result.{IfOk-weaker, on_ok_weaker}
pub use Rattle.std.specs.FinMap.{find}
pub use Rattle.std.specs.List.{find as first}
pub use Rattle.cns_positions.proofs.Held.{filter_both, first_passing, last_given}
pub use Rattle.cns_positions.proofs.Puts.{below_later, comparisons_rise, find_at, find_gap}
pub use Rattle.cns_positions.proofs.Unheld.{held_same}
pub use Rattle.cns_positions.specs.Rows.{Rows, held_above, is_held, last_of, present, zeros}
pub use Rattle.cns_prices.specs.Listed.{Listed, listed_above, price_in}
pub use Rattle.cns_terms.proofs.Common.{Account, AllByRecursion, Cusip, DaySheet, IsPartitionPoint, IsSend, IsTotalOrder, Price, added, added-each, amount_limit, below_all, bytes_eq-Decides, cash, corporation, crosses, drop_all, each_filter, each_weaker, equal, exact_keys, filter-append, find_below, find_filter, front_total, idle_parts, insert_entry, ints, is_eq-slice_cmp, is_sorted, key_cmp, keys_total, lookup, map-append, member_limit, nat_list_cmp_total, nat_tests, next_above, option_map_or, option_or, row_key, rows_for, same_issue, same_key, same_lists, says, sendable, slice_cmp, sorted_filter, sorted_from, sum_by-append, sum_by-cons, tied_itself, total, total-add, total-append, total-map, total-neg, total-same, unsigned_abs-mul, w128, zero-*ℤ, zero_add}
pub use Rattle.cns_terms.specs.declared.action.Declared.{Declared}
pub use Rattle.cns_terms.specs.declared.holding.Holding.{Holding}
pub use Rattle.cns_terms.specs.declared.holding.Key.{Key}
pub use Rattle.cns_terms.specs.declared.sheet.Row.{Row}
pub use Rattle.cns_tree.specs.Search.{is_after, is_at_or_after}
pub use Rattle.cns_sheets.specs.Build.{AreBalanced, Columns, HasSmallCents, IsMarked, PriceList, by_key, closing_in, full_row, full_rows, marked, price_on, prices_of, sum_limit, worth}
pub use Rattle.cns_sheets.specs.Condition.{CanBeCut, held_in, rows_before}
pub use Rattle.cns_sheets.specs.InIssue.{AreAccounts, IsPlaceIn, entries_from, is_next_in, place_after, reaches, rows_from}
pub use Rattle.cns_sheets.specs.Payments.{IsCut, IsPayable, Paying, closing_at, cut_row, dividend_of, member_cash, paid, paying}
pub use Rattle.cns_sheets.specs.Search.{prices_above, row_at}
pub use Rattle.cns_sheets.specs.Walking.{AreFrom, ahead_of, if_of, lowest_of, passed}
pub use Rattle.cns_sheets.specs.Woven.{CentsByKey, Woven, cents_at, higher, lower, past, unheld, weave, woven_row, woven_rows, is_below}
pub use Rattle.cns_units.specs.Cusip.{IsCusip, last_fault}
