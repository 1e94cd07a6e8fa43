-- The names that most proofs cite, passed on from one place: those of specs/Common.antt, and lemmas. Declares nothing.
pub use Rattle.cns_terms.specs.Common.{Account, Activity, AllByRecursion, AllWithin, Appends, AppendsFront, AreHolders, Command, Cusip, Day, DaySheet, Declared, Entry, Execution, Fill, ForSome, Included, IsBinarySearchResult, IsInRange, IsLegal, IsNonDecreasingBy, IsPartitionPoint, IsReached, IsTotalOrder, Journal, Keeps, Key, Liable, Liables, Member, Notice, Posting, Price, PromisedHandle, Rate, Row, Rule, Short, State, Told, YieldsFirst, accepted, account_lt, accounts, activities, after, against_corporation, all_ascii_digits, amount_limit, answer, answer_to, arc_value, as_of, at_close, batch, batch_at, batch_since, batches, batches_since, below_all, binary_digits, booking_limit, bought_in, buyer_entry, called, capacity, cash, cents_for, changed_at, charged, chosen, closed_on, closes, closings, cons_option, converted, corporation, corporation_limit, count, date, day, day_number, day_sheet, digits_value, dividend, dividends, entries, entry, exchanged, executes, execution, execution_entries, fill_entry, fills, fills_before, fills_of, first_reached, first_refusal, greatest, history_limit, holders, holding, in_exchange, in_lieu, in_order, insert_entry, is_account, is_beyond, is_called, is_close, is_exceeded, is_idle, is_listed, is_live, is_member, is_not_after, is_past, is_retired, is_same_day, is_seen, is_sorted, is_too_far, is_too_large, is_too_large_at, issue_lt, issues, journal, journal_of, entry_key, key_after, key_cmp, last_close, last_date, left_of, liable_of, list_any, long, lookup, mark, member_dividend, member_limit, members, money, money_limit, moved_in, moved_out, new_entry, next, notice, notice_at, notices, old_entry, oldest, oldest_of, open_day, opened, option_map_or, option_or, ordering_index, ordering_then, originator_entry, pays_before, pend_of, pending, position_from, position_limit, posting, price, price_limit, priced, range_contains, rate_limit, receipt, refusal, remaining, room, room_of, row, row_key, rows_for, rows_of, same_issue, seller_entry, shares_executed, shares_for, shares_limit, sheet_on, sheet_rows, short, short_of, shorts, slice_cmp, sold_in, stage, statement, stretch, tied_itself, total, trade_entries, trades, w128, waits_in}
pub use Rattle.std.specs.Prelude.{⊤}
pub use denote.Param.Send.{IsSend, sendable}
pub use lib.IntN.{zero-*ℤ}
pub use Rattle.std.proofs.Crossing.{crosses}
pub use Rattle.std.proofs.lemmas.Bool.{cases_lt}
pub use Rattle.std.proofs.lemmas.Grind.{reverse_onto}
pub use Rattle.std.proofs.lemmas.Int.{fits_signed_from_abs, ints, unsigned_abs-mul}
pub use Rattle.std.proofs.lemmas.Iterator.Consumers.{YieldsList-from_shown}
pub use Rattle.std.proofs.lemmas.List.{drop_all, length-map, length-reverse, map-append, reverse-append, take_more}
pub use Rattle.std.proofs.lemmas.List.Elements.{Contains-get_or, filter-append, filter_map-append}
pub use Rattle.std.proofs.lemmas.List.Sorted.{IsPartitionPoint-from_clause, answers_always}
pub use Rattle.std.proofs.lemmas.List.Sums.{sum_by-append, sum_by-cons}
pub use Rattle.std.proofs.lemmas.Map.Lookups.{exact_bytes}
pub use Rattle.std.proofs.lemmas.Option.{slice_get_read, slice_get_within}
pub use Rattle.std.proofs.lemmas.Result.{err_from_is_err_and}
pub use Rattle.cns_units.proofs.OutputLemmas.{front_longer}
pub use Rattle.cns_units.proofs.Parts.{parts_failed, parts_more}
pub use Rattle.cns_terms.proofs.Accounts.{occurs, occurs_found, occurs_missing}
pub use Rattle.cns_terms.proofs.BuyIns.{IsExecutable}
pub use Rattle.cns_terms.proofs.Everywhere.{each_append, each_both, each_filter, each_first, each_found, each_in_order, each_map, each_weaker}
pub use Rattle.cns_terms.proofs.Facts.{and_false, and_left, and_right, both_true, bytes_eq-Decides, bytes_refl, eqb_refl, eqb_sym, equal, holds, is_eq-slice_cmp, journal_len, less, nat_cmp_total, nat_list_cmp_total, nat_list_eq_equiv, nat_tests, neither, position, same_test, zero_add, ◌≡◌, refl, ℕ, ◌+◌, ◌≤◌, true, false, cond, ◌==◌, List, [], ◌∷◌, map, filter, sum_by, arith, brought, filled, given_to, ◌*◌, ◌<◌, ℤ, pos, neg_ℤ, ◌*ℤ◌, not, length, unsigned_abs, mul-le-mul_left, mul-le-mul, Amounts, HasSmallSums, StaysSmall, value, ◌++◌, commands_of, replies_of, state, replies, ap, zero, suc, max, Bool, None, is_none, flat_map, Exchange, age, carried, closes_short, exchanges_today, forerunners, forerunners_today, rules, issues_differ, sym, ◌∙◌, subst, find, Option, Some, option_map, ClosedDays, sheet_at, if◌then◌else◌, codes, ◌&&◌, bytes_eq, ◌^◌, nat_cmp, ◌||◌, eqb, is_lt, unwrap_or, sheet_prices, ◌+ℤ◌, take, filter_len, same_order}
pub use Rattle.cns_terms.proofs.Laid.{cents_of_fills, shares_of_fills, fills_laid, laid}
pub use Rattle.cns_terms.proofs.Finds.{find_below, find_filter, kept_if, next_above, same_lists, sorted_filter, sorted_from}
pub use Rattle.cns_terms.proofs.Keys.{exact_keys, keys_total, same_key, pairs_cmp}
pub use Rattle.cns_terms.proofs.Limits.{near, cents_of, open_small}
pub use Rattle.cns_terms.proofs.Magnitudes.{added, added-all, added-each, added-more, front_total, magnitude, total_small, one_issue, over_all, total-add, total-append, total-map, total-neg, total-same, total-swap, total-zero, added-filter, added-flat_map, added-map, over_more, over_total, added-swap}
pub use Rattle.cns_terms.proofs.Reached.{IsLimited, bounded, each_closing, for_members, limited, limited_past, members_few, members_from_one, limited_nil, AreSmallRates}
pub use Rattle.cns_terms.proofs.Rising.{above_all, is_rising}
pub use Rattle.cns_terms.proofs.SheetBounds.{issues_few, at_most_one}
pub use Rattle.cns_terms.proofs.SheetSums.{idle_parts, says}
pub use Rattle.cns_terms.proofs.Sound.{IsSound, IsWhole, NoneHolds, all_fail, opening_stays, whole-after, whole-next, AreKnown, IsPlace}
pub use Rattle.cns_terms.proofs.Valued.{find_with}
pub use Rattle.cns_terms.proofs.Waiting.{bought_by, sold_by, sum_added}
