-- The names that most proofs of this crate cite, passed on from one place: those of proofs/Common.antt of cns_terms, its types, and this crate's words. Declares nothing.
pub use Rattle.std.proofs.Common.{All, Bool, Equal, Greater, IsPermutation, Less, List, None, Option, Ordering, Some, [], add-one, ap, append-nil, append_assoc, arith, bytes_eq, cond, drop, false, filter, get_or, get_or-set_other, get_or-set_same, get_or-take, is_eq, is_lt, length, length-set, length-take, map, min, nat_cmp, nat_eq, nat_lt, option_map, refl, rules, set, suc, sum_by, sym, take, true, zero, ℕ, ◌*◌, ◌++◌, ◌+◌, ◌-◌, ◌/◌, ◌&&◌, ◌<◌, ◌∙◌, ◌∷◌, ◌≡◌, ◌≤◌, ◌⊎◌}
pub use Rattle.std.proofs.lemmas.Bool.{cases_eq}
pub use Rattle.std.proofs.lemmas.List.{drop_more, ext_get_or, get_or-map, get_or_default, length-map, nil_from_length, set_past}
pub use Rattle.std.proofs.lemmas.List.Elements.{All-from_recursion, All-get_or, recursion_from_All}
pub use Rattle.std.proofs.lemmas.List.Folds.{find_at, map_fixed}
pub use Rattle.std.proofs.lemmas.List.Sums.{get_or-le-sum_by, position_or_len_is, sum_by-le-sum_by, sum_by_more, sum_by_more_le}
pub use Rattle.std.proofs.lemmas.Result.{on_ok_weaker}
pub use Rattle.cns_terms.proofs.Common.{AllByRecursion, AllWithin, Cusip, ForSome, IsNonDecreasingBy, Liables, Member, answers_always, below_all, bytes_eq-Decides, capacity, cases_lt, changed_at, charged, chosen, drop_all, each_filter, each_weaker, fills_before, fills_laid, fills_of, in_order, is_called, is_eq-slice_cmp, is_sorted, laid, less, liable_of, nat_list_cmp_total, nat_tests, ordering_index, ordering_then, slice_cmp, stretch, sum_by-cons, take_more, above_all, is_rising, list_any}
pub use Rattle.cns_terms.specs.Batches.{if_older}
pub use Rattle.cns_terms.specs.declared.buy_in.Fill.{Fill}
pub use Rattle.cns_terms.specs.declared.buy_in.Liable.{Liable}
pub use Rattle.cns_terms.specs.declared.buy_in.Short.{Short}
pub use Rattle.cns_retransmit.specs.Calls.{CalledIn, CanBeChosen, batches_of, called_in, with_short}
pub use Rattle.cns_retransmit.specs.Charges.{CanBeCharged, IsWithin, fills_for}
pub use Rattle.cns_retransmit.specs.Chosen.{IsOldestFirst, NoneOlder, chosen_of, shorts_of}
pub use Rattle.cns_retransmit.specs.Days.{RiseByIssue, batch_in, by_issue, charged_in, charged_by, charged_if, charged_on}
pub use Rattle.cns_retransmit.specs.Members.{left_of, members_of}
pub use Rattle.std.proofs.lemmas.Grind.{common_steps, get_or_head, get_or_tail}
