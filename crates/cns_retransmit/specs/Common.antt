-- The names that most definitions of this crate cite, passed on from one place. Declares nothing.
pub use Rattle.cns_terms.specs.Common.{Cusip, Liables, Member, changed_at, charged, chosen, is_called, is_eq, is_sorted, liable_of, lookup, nat_cmp, option_map_or, same_issue, slice_cmp}
pub use Rattle.cns_terms.specs.declared.buy_in.Fill.{Fill}
pub use Rattle.cns_terms.specs.declared.buy_in.Liable.{Liable}
pub use Rattle.cns_terms.specs.declared.buy_in.Short.{Short}
