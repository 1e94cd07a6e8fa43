-- The names that most proofs cite, passed on from one place. Declares nothing.
pub use Rattle.std.proofs.Common.{List, None, Option, Some, [], ap, append-nil, append_assoc, arith, false, find, get_or, length, length-append, map, min, option_map, refl, rules, slice_get, suc, sym, take, true, unsigned_abs, zero, ℕ, ◌++◌, ◌+◌, ◌-◌, ◌<◌, ◌==◌, ◌^◌, ◌∙◌, ◌∷◌, ◌≡◌, ◌≤◌}
pub use Rattle.std.proofs.lemmas.Bool.{eq-eqb, ne_eqb}
pub use Rattle.std.proofs.lemmas.Fn.{always_returns_same}
pub use Rattle.std.proofs.lemmas.Grind.{common_steps}
pub use Rattle.std.proofs.lemmas.List.{flat_map_more, map-append, take_all}
pub use Rattle.std.proofs.lemmas.List.Elements.{filter-append, filter_map-append}
pub use Rattle.std.proofs.lemmas.List.Sums.{fold-append}
pub use Rattle.std.specs.BTreeMap.{get}
pub use Rattle.std.specs.Cmp.Lexicographic.{slice_cmp}
pub use Rattle.std.specs.List.{flat_map, fold}
pub use Rattle.std.specs.List.Sorted.{IsPermutation, IsSortedByKeyClosure, IsStableByKeyClosure}
pub use Rattle.std.specs.Option.{option_map_or}
pub use Rattle.std.specs.Ordering.{int_cmp, nat_cmp}
pub use Rattle.std.specs.Prelude.{count_by, sum_by}
pub use Rattle.cns_account.proofs.Gathered.{put_found, take_past}
pub use Rattle.cns_book.specs.Log.{state_of}
pub use Rattle.cns_book.specs.Shown.{notice_listed, notice_of}
pub use Rattle.cns_retransmit.proofs.Lists.{take_next}
pub use Rattle.cns_terms.specs.Common.{Account, Cusip, Day, DaySheet, IsReached, Journal, Notice, day, is_live, journal, journal_of, notice, notice_at, noticed, notices, refusal}
pub use Rattle.cns_terms.specs.Keys.{key_cmp}
pub use Rattle.cns_terms.specs.declared.command.Activity.{Activity}
pub use Rattle.cns_terms.specs.declared.sheet.Row.{Row}
unfoldable pub use Rattle.cns_day.specs.Summary.{lines_after}
pub use Rattle.cns_day.specs.Summary.{grouped, sheet_lines}
pub use Rattle.cns_day.specs.Due.{AreLater, projected_all, with_due}
pub use Rattle.cns_day.specs.Issues.{with_row_in}
pub use Rattle.cns_day.specs.Listed.{IsInOrderOf, is_short, later_among, live_among, owing_among, shorts_among}
pub use Rattle.std.specs.Int.{int_wrap, w64}
pub use Rattle.std.specs.Prelude.{ℤ, pos, ◌+ℤ◌}
pub use Rattle.cns_day.specs.declared.shorts.Aged.{Aged}
pub use Rattle.cns_terms.specs.declared.command.Command.{Command}
