-- The names that most proofs of this crate cite, passed on from one place: those of proofs/Common.antt of cns_terms, its types, and this crate's words. Declares nothing.
pub use Rattle.std.proofs.Common.{Bool, List, None, Option, Some, [], ap, arith, cond, drop, false, filter, flat_map, get_or, int_eq, is_eq, is_lt, is_some, length, lt-ltb, map, max, nat_cmp, nat_lt, neg_ℤ, not, of_z, pos, refl, subst, sym, take, take_all, to_z, true, unsigned_abs, w64, ℕ, ℤ, ◌&&◌, ◌*◌, ◌++◌, ◌+ℤ◌, ◌+◌, ◌-ℤ◌, ◌<◌, ◌==◌, ◌^◌, ◌||◌, ◌∙◌, ◌∷◌, ◌≡◌, ◌≢◌, ◌≤◌}
pub use Rattle.std.specs.Prelude.{All}
pub use Rattle.std.proofs.lemmas.Int.{to_z-of_z}
pub use Rattle.std.proofs.lemmas.List.Elements.{All-from_recursion, All-get_or, All-head, All-more, All-weaker, filter_passes, recursion_from_All}
pub use Rattle.std.proofs.lemmas.Result.{on_ok_weaker}
pub use Rattle.std.specs.FinMap.{find}
pub use Rattle.cns_positions.proofs.Unheld.{held_same, held_sorted}
unfoldable pub use Rattle.cns_positions.specs.Rows.{row_at}
pub use Rattle.cns_positions.specs.Rows.{Rows, aged, booked, books, entry_of, has_row, held_above, holding_at, is_held, rolled, with_age, zeros}
pub use Rattle.cns_terms.proofs.Common.{Account, AllByRecursion, AreHolders, Cusip, Day, Member, above_all, against_corporation, amount_limit, and_left, and_right, below_all, bought_in, buyer_entry, bytes_eq-Decides, bytes_refl, cents_for, cons_option, converted, corporation, each_append, each_map, each_weaker, entry, entry_key, equal, exact_keys, find_below, fits_signed_from_abs, greatest, holders, in_exchange, in_lieu, insert_entry, ints, is_beyond, is_eq-slice_cmp, is_rising, is_sorted, key_after, key_cmp, keys_total, less, list_any, lookup, map-append, member_limit, money_limit, nat_cmp_total, nat_list_cmp_total, nat_tests, new_entry, occurs, occurs_found, occurs_missing, old_entry, oldest_of, option_map_or, position_limit, same_issue, same_key, same_lists, seller_entry, shares_for, shares_limit, slice_cmp, sold_in, sorted_from, tied_itself, total, total-add, total-append, total-map, total-neg, total-same, total-zero, trade_entries, w128, zero_add}
pub use Rattle.cns_terms.proofs.Finds.{as_T, tied_below}
pub use Rattle.cns_terms.specs.Actions.{are_distinct}
pub use Rattle.cns_terms.specs.declared.holding.Entry.{Entry}
pub use Rattle.cns_terms.specs.declared.holding.Holding.{Holding}
pub use Rattle.cns_terms.specs.declared.holding.Key.{Key}
pub use Rattle.cns_terms.specs.declared.pend.Pend.{Pend}
pub use Rattle.cns_actions.specs.Booked.{CanBeBooked, IsForAnother, age_brought, entries_of, issue_of, position_at, positions_in}
pub use Rattle.cns_actions.specs.Bookings.{AreElsewhere, AreEntered, AreSmall, HasSpace, HaveSpace, IsSmall, by_key, carried_to, entered, entries_in, made, makes}
pub use Rattle.cns_actions.specs.Changes.{AreInIssues, IsFew, all_bookings, all_holders_of, bookings_for, change_of, has_position, has_position_or_age, holder_of, holders_in, holders_of, member_bookings, opposite, sum_of, takes_beyond, with_position}
pub use Rattle.cns_actions.specs.DueAmounts.{AmountsByKey, AreApartFrom, HasRoomForTrade, IsOneTradeMore, IsSmallAmount, amount_at, amount_for, amount_of, as_booking, due_entries, with_amount, with_entry}
pub use Rattle.cns_actions.specs.Holding.{holder_at, holders_after, is_left, is_of_next}
pub use Rattle.cns_actions.specs.declared.action.Action.{Action}
pub use Rattle.cns_actions.specs.declared.booking.Booking.{Booking}
pub use Rattle.cns_actions.specs.declared.change.Change.{Change}
pub use Rattle.cns_actions.specs.declared.due_amounts.Amount.{Amount}
pub use Rattle.cns_actions.specs.declared.holder.Holder.{Holder}
pub use Rattle.std.proofs.Math.IntN.{+ℤ_assoc, +ℤ_comm, +ℤ_idl, +ℤ_idr}
pub use Rattle.std.proofs.Math.Nat.{max-zero}
pub use Rattle.cns_terms.specs.Entries.{split_entry}
