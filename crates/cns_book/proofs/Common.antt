-- The names that most proofs of this crate cite, passed on from one place: those of proofs/Common.antt of cns_terms, its types, and this crate's words. Declares nothing.
pub use Rattle.std.proofs.Common.{Bool, Contains, Err, HoldsAt, IfErr, IfOk, IfSome, IsErr, IsSome, List, MatchOption, None, Ok, OnOk, Option, Ordering, Result, Some, [], ap, append-nil, append_assoc, arith, bytes_eq, cond, eqb, eqb-true, false, filter, filter_map, find, flat_map, get_or, get_or-set_other, inl, inr, int_cmp, int_le, int_lt, is_eq, is_le, is_none, is_some, length, length-append, map, min, mul-le-mul_right, nat_cmp, nat_lt, neg_ℤ, not, of_z, option_map, pos, refl, replicate, reverse, set, slice_get, slice_index, subst, suc, sum_by, sym, take, take_all, to_z, true, unsigned_abs, unwrap_or, w64, zero, ℕ, ℤ, ◌&&◌, ◌*◌, ◌++◌, ◌+ℤ◌, ◌+◌, ◌-◌, ◌<◌, ◌==◌, ◌^◌, ◌||◌, ◌↔◌, ◌∙◌, ◌∷◌, ◌≡◌, ◌≤◌, ◌⊎◌, rules}
pub use Rattle.std.proofs.Math.Nat.{max-zero, min-le_left, min-le_right}
pub use Rattle.std.proofs.lemmas.Simd.{map-map}
pub use Rattle.std.proofs.lemmas.List.{map-id, get_or-map, get_or-reverse, length-take, get_or-take}
pub use Rattle.std.proofs.lemmas.List.Elements.{All-from_recursion, All-take, recursion_from_All}
pub use Rattle.std.proofs.lemmas.Option.{get_or_from_slice_get, same_Some, slice_get-get_or, slice_get-map, slice_get_past, unwrap_or-slice_get}
pub use Rattle.std.proofs.lemmas.Result.{IfOk-weaker}
pub use Rattle.cns_actions.specs.Booked.{age_brought, entries_of, issue_of, positions_in, CanBeBooked, position_at, waits_for}
pub use Rattle.cns_actions.specs.Bookings.{AreElsewhere, makes}
pub use Rattle.cns_actions.specs.DueAmounts.{AreApartFrom, due_entries}
pub use Rattle.cns_actions.specs.declared.action.Action.{Action}
pub use Rattle.cns_actions.specs.declared.booking.Booking.{Booking}
pub use Rattle.cns_notices.proofs.NoticeFacts.{days_by, kept_found, live_same, notices_few}
pub use Rattle.cns_notices.proofs.NoticeSteps.{AreNumberedFrom, live_received, numbered}
pub use Rattle.cns_notices.proofs.Noticing.{changed_each, changed_one, changed_same, ended_by, executed_by, expired_by, notice_found, notice_more, received_by, taken_back, withdrawn_by}
pub use Rattle.cns_notices.specs.Kept.{kept, kept_notices, received_live}
pub use Rattle.cns_notices.specs.Noticed.{notice_at as kept_at, at_stage, ended, expired, live_number, new_notice, receives, with_notice, executes as executes_more}
pub use Rattle.cns_notices.specs.declared.noticed.Noticed.{Noticed}
pub use Rattle.cns_positions.specs.Rows.{Rows, booked, books, has_row, holding_at, rolled, with_age, zeros}
pub use Rattle.cns_prices.specs.Listed.{Listed, price_in, retired_in, listed_above}
pub use Rattle.cns_retransmit.proofs.Lefts.{none_called}
pub use Rattle.cns_retransmit.specs.Calls.{CalledIn, CanBeChosen, batch_of, batches_of, called_in, shorts_in, total_in, with_short}
pub use Rattle.cns_retransmit.specs.Days.{batch_in, batch_on, batches_on, charged_on, charged_if, charged_in}
pub use Rattle.cns_sheets.proofs.Balance.{found_number, numbers, same_sums, sorted_numbers, total_numbers, none_in, numbers_in}
pub use Rattle.cns_sheets.specs.Build.{HaveSmallAmounts, by_key, prices_of}
pub use Rattle.cns_sheets.specs.Payments.{IsCut, IsPayable, Paying, closing_at, cut_row, dividend_of, member_cash, paid, said}
pub use Rattle.cns_terms.proofs.BatchSteps.{batch_charged, batch_new, batch_same, unfilled}
pub use Rattle.cns_terms.proofs.Facts.{filter_len, same_order}
pub use Rattle.cns_terms.proofs.CarriedAges.{carried_on, carried_same, oldest_le}
pub use Rattle.cns_terms.proofs.Common.{entry_key, fills_before, Account, AllByRecursion, AllWithin, AreHolders, Cusip, Day, DaySheet, ForSome, IsBinarySearchResult, IsExecutable, IsInRange, IsLegal, IsLimited, IsNonDecreasingBy, IsPartitionPoint, IsPartitionPoint-from_clause, IsReached, IsSend, IsSound, IsWhole, Journal, Liables, Member, Notice, Posting, State, above_all, accepted, account_lt, accounts, after, all_fail, amount_limit, and_left, and_right, answer_to, answers_always, arc_value, as_of, at_close, batch, batch_at, batch_since, batches, batches_since, below_all, booking_limit, bought_by, bought_in, bounded, bytes_eq-Decides, bytes_refl, called, capacity, cases_lt, cash, cents_for, cents_of_fills, charged, chosen, closes, closings, cons_option, corporation, corporation_limit, count, crosses, date, day, day_number, day_sheet, dividend, dividends, each_append, each_both, each_filter, each_found, each_in_order, each_map, each_weaker, entries, eqb_refl, eqb_sym, equal, exact_bytes, exact_keys, exchanged, executes, fill_entry, fills, fills_laid, fills_of, filter-append, filter_map-append, find_below, find_filter, find_with, first_refusal, history_limit, holding, idle_parts, in_order, ints, is_account, is_close, is_exceeded, is_idle, is_listed, is_live, is_member, is_not_after, is_retired, is_rising, is_seen, is_sorted, is_too_large, is_too_large_at, issues, issues_few, journal, journal_len, journal_of, kept_if, key_cmp, keys_total, laid, last_close, last_date, left_of, length-map, length-reverse, limited, limited_past, list_any, map-append, member_limit, members, members_few, members_from_one, moved_in, moved_out, nat_list_cmp_total, nat_list_eq_equiv, nat_tests, near, neither, next, notice_at, notices, occurs, occurs_found, occurs_missing, oldest, oldest_of, opened, option_map_or, ordering_index, pays_before, pend_of, pending, position_limit, posting, price, price_limit, rate_limit, refusal, remaining, reverse-append, reverse_onto, room, room_of, row, row_key, rows_for, rows_of, same_issue, same_lists, same_test, says, sendable, shares_executed, shares_for, shares_limit, shares_of_fills, sheet_on, sheet_rows, short, short_of, shorts, slice_cmp, slice_get_within, sold_by, sold_in, sorted_filter, stage, sum_by-cons, take_more, tied_itself, total, total-append, total-map, total-neg, total-same, total-swap, total-zero, trade_entries, waits_in, zero_add}
pub use Rattle.cns_terms.proofs.Elsewhere.{idle_at, no_account_elsewhere, no_position}
pub use Rattle.cns_terms.proofs.Facts.{less_less, or_false, price_branch}
pub use Rattle.cns_terms.proofs.Finds.{not_itself, tied_below}
pub use Rattle.cns_terms.proofs.Reached.{AreSmallRates, bounds}
pub use Rattle.cns_terms.proofs.SheetLimits.{account_cents_small, account_dividends_small, accounts_grew, due_few, payable, total-due}
pub use Rattle.cns_terms.proofs.Sound.{IsNoticed, opening_stays, sound_last, whole-after, whole-next}
pub use Rattle.cns_terms.proofs.Valued.{sorted_with}
pub use Rattle.cns_terms.specs.Batches.{liable_at}
pub use Rattle.cns_terms.specs.Machine.{accepted_after, activity_reply}
pub use Rattle.cns_terms.specs.Pending.{due, is_due, is_due as due_on, trades as trades_of}
pub use Rattle.cns_terms.specs.Positions.{position}
pub use Rattle.cns_terms.specs.Sums.{put}
pub use Rattle.cns_terms.specs.declared.action.Declared.{Declared}
pub use Rattle.cns_terms.specs.declared.buy_in.Execution.{Execution}
pub use Rattle.cns_terms.specs.declared.buy_in.Fill.{Fill}
pub use Rattle.cns_terms.specs.declared.buy_in.Given.{Given}
pub use Rattle.cns_terms.specs.declared.buy_in.Liable.{Liable}
pub use Rattle.cns_terms.specs.declared.buy_in.Stage.{Stage}
pub use Rattle.cns_terms.specs.declared.command.Activity.{Activity}
pub use Rattle.cns_terms.specs.declared.command.Command.{Command}
pub use Rattle.cns_terms.specs.declared.command.Movement.{Movement}
pub use Rattle.cns_terms.specs.declared.history.Taken.{Taken}
pub use Rattle.cns_terms.specs.declared.holding.Entry.{Entry}
pub use Rattle.cns_terms.specs.declared.holding.Holding.{Holding}
pub use Rattle.cns_terms.specs.declared.holding.Key.{Key}
pub use Rattle.cns_terms.specs.declared.pend.Pend.{Pend}
pub use Rattle.cns_terms.specs.declared.refusal.Refusal.{Refusal}
pub use Rattle.cns_terms.specs.declared.refusal.Refusal.TheVariants.{AlreadyNoticed, ExceedsPosition, NotLiable, NotLive, TooEarly}
pub use Rattle.cns_terms.specs.declared.reply.Reply.{Reply}
pub use Rattle.cns_terms.specs.declared.sheet.Row.{Row}
pub use Rattle.cns_trades.specs.Checks.{AreSmallEntries, IsSmallEntry, booking, books_beyond, delivery_rules, issue_rules, party, receipt_rules, takes_beyond, trade_answer, trade_rules, waits_beyond}
pub use Rattle.cns_trades.specs.Used.{Traded, is_used}
pub use Rattle.cns_book.specs.Contents.{Contents}
pub use Rattle.cns_book.specs.Dated.{IsAfter, is_dated, is_dated_by, last_dated, payments_by, sheet_as_of, AreFalling, dated_sheet}
pub use Rattle.cns_book.specs.Effects.{AreThere, AreWithin, activity_of, exchange_rules, is_held_up, places_of, stands}
pub use Rattle.cns_book.specs.Executions.{AreApart, CanBeBought, CanBeExecuted, CanBeFilled, IsAccepted, IsWithin, capped_short, entries_by, filled_at, fills_by, notice_of, originator_at}
pub use Rattle.cns_book.specs.Follows.{AreMoveFacts, AreTradeFacts, Follows, FollowsBatches, FollowsDividends, FollowsListings, FollowsNotices, FollowsPending, FollowsReferences, FollowsRows, HasRoom, Steps, kept_batches, member_position}
pub use Rattle.cns_book.specs.Replies.{AreAmong, Stays, taken_in}
pub use Rattle.cns_book.specs.Retransmittal.{call_of, called_by, is_short_in, oldest_at, remaining_by, short_at, short_in, with_shorts}
pub use Rattle.cns_book.specs.Shown.{notice_listed}
pub use Rattle.cns_terms.specs.Notices.{executed, notice, noticed}
pub use Rattle.cns_terms.specs.Dividends.{declared}
pub use Rattle.std.proofs.lemmas.List.Sorted.{IsNonDecreasingBy-push, IsPermutation-reverse, list_any-IsPermutation, sum_by-IsPermutation}
