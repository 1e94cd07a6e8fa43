-- The names that most proofs of this crate cite, passed on from one place. Declares nothing.
pub use Rattle.std.proofs.Common.{Bool, IsSome, Less, None, OnErr, OnOk, Option, Result, Some, ap, arith, bytes_eq, cond, false, filter, is_eq, is_lt, map, nat_cmp, option_map, refl, sym, true, ◌&&◌, ◌||◌, ◌∙◌, ◌∷◌, ◌≡◌}
pub use Rattle.cns_terms.proofs.Common.{Cusip, bytes_eq-Decides, is_eq-slice_cmp, is_sorted, less, nat_list_cmp_total, next_above, option_map_or, range_contains, slice_cmp, sorted_from}
pub use Rattle.cns_prices.specs.Listed.{Listed, Quotes, is_after, listed_above, price_in, quote_in, retired_in}
pub use Rattle.cns_prices.specs.declared.prices.Quote.{Quote}
