-- The names that most proofs cite, passed on from one place. Declares nothing.
pub use Rattle.std.proofs.Common.{Bool, List, None, Ok, Option, Some, [], ap, append-nil, arith, cond, drop, false, filter, filter_map, length, map, option_map, option_to_list, pos, refl, reverse, slice_get, sym, take, unsigned_abs, unwrap_or, ℕ, ◌++◌, ◌+◌, ◌-ℤ◌, ◌-◌, ◌<◌, ◌^◌, ◌∙◌, ◌∷◌, ◌≡◌, ◌≤◌}
pub use Rattle.std.specs.List.{cons_option, flat_map}
pub use Rattle.std.proofs.lemmas.Bool.Decides.{nat_tests}
pub use Rattle.cns_book.specs.Log.{state_of}
pub use Rattle.cns_sheets.specs.Search.{prices_above}
pub use Rattle.cns_terms.specs.Common.{Account, AllByRecursion, Cusip, Day, IsReached, Journal, Price, State, amount_limit, answer, closings, corporation_limit, date, history_limit, journal, journal_of, next, opened, total}
pub use Rattle.cns_terms.specs.declared.command.Activity.{Activity}
pub use Rattle.cns_terms.specs.declared.holding.Holding.{Holding}
pub use Rattle.cns_terms.specs.declared.holding.Key.{Key}
unfoldable pub use Rattle.cns_history.specs.Lines.{numbers, history}
pub use Rattle.cns_history.specs.Lines.{booked, booked_since, booking, closing, counted_from, has_position, lines_at, opened_since, place, standing}
pub use Rattle.cns_history.specs.declared.line.HistoryLine.{HistoryLine}
