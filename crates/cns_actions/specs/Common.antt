-- The names that most definitions of this crate cite, passed on from one place. Declares nothing.
pub use Rattle.cns_actions.specs.declared.action.Action.{Action}
pub use Rattle.cns_actions.specs.declared.booking.Booking.{Booking}
pub use Rattle.cns_actions.specs.declared.holder.Holder.{Holder}
pub use Rattle.cns_positions.specs.Rows.{Rows, books, has_row, held_above, holding_at, with_age}
pub use Rattle.cns_terms.specs.Common.{Account, AllByRecursion, Cusip, Day, Member, amount_limit, bought_in, cents_for, converted, corporation, corporation_limit, entry, entry_key, greatest, in_exchange, in_lieu, is_beyond, is_lt, is_sorted, key_cmp, money_limit, nat_cmp, oldest_of, position_limit, same_issue, shares_for, shares_limit, slice_cmp, sold_in, total, trade_entries, waits_in}
pub use Rattle.cns_terms.specs.declared.holding.Entry.{Entry}
pub use Rattle.cns_terms.specs.declared.holding.Holding.{Holding}
pub use Rattle.cns_terms.specs.declared.holding.Key.{Key}
pub use Rattle.cns_terms.specs.declared.pend.Pend.{Pend}
