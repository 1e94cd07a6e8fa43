-- The names that most definitions of this crate cite, passed on from one place. Declares nothing.
pub use Rattle.cns_positions.specs.Rows.{Rows, holding_at, zeros}
pub use Rattle.cns_prices.specs.Listed.{Listed, is_after, price_in}
pub use Rattle.cns_terms.specs.Common.{Account, AllByRecursion, Cusip, DaySheet, Price, amount_limit, cash, corporation, is_idle, is_lt, is_sorted, key_cmp, member_limit, nat_cmp, option_map_or, row_key, rows_for, same_issue, slice_cmp, total}
pub use Rattle.cns_terms.specs.declared.holding.Holding.{Holding}
pub use Rattle.cns_terms.specs.declared.holding.Key.{Key}
pub use Rattle.cns_terms.specs.declared.sheet.Row.{Row}
pub use Rattle.std.specs.FinMap.{find}
