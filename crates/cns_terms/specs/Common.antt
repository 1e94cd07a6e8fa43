-- The names that definitions and proofs cite most, passed on from one place. Declares nothing. A library leaves out the types of its own src/:
-- so those of this crate come from here to its own proofs alone.
pub use Rattle.std.specs.Arc.{arc_value}
pub use Rattle.std.specs.BTreeMap.{insert_entry}
pub use Rattle.std.specs.BTreeMap.Range.{range_contains}
pub use Rattle.std.specs.Cmp.{IsTotalOrder, tied_itself}
pub use Rattle.cns_terms.specs.Types.{Account, Activity, AllByRecursion, Command, Cusip, Day, Entry, Execution, Fill, Key, Liable, Member, Pend, Price, Ratio, Row, day_number, is_lt, list_any, nat_cmp, option_map_or, ordering_then, slice_cmp}
pub use Rattle.std.specs.FinMap.{is_sorted}
pub use Rattle.std.specs.FinMap.Entries.{below_all}
pub use Rattle.std.specs.Int.{w128}
pub use Rattle.std.specs.Io.KnownBytes.{Appends, Keeps}
pub use Rattle.std.specs.Iterator.{YieldsFirst}
pub use Rattle.std.specs.List.{AllWithin, cons_option, position_from}
pub use Rattle.std.specs.List.Sorted.{IsBinarySearchResult, IsNonDecreasingBy, IsPartitionPoint}
pub use Rattle.std.specs.Map.{lookup}
pub use Rattle.std.specs.Option.{ForSome, option_or}
pub use Rattle.std.specs.Ordering.{is_eq, ordering_index}
pub use Rattle.std.specs.Str.{all_ascii_digits}
pub use Rattle.std.specs.Str.Parse.{digits_value}
pub use Rattle.std.specs.declared.ops.Bound.TheVariants.{Included}
pub use Rattle.std.specs.declared.thread.PromisedHandle.{PromisedHandle}
pub use Rattle.cns_units.specs.Cents.{cents_text}
pub use Rattle.cns_units.specs.Output.{AppendsFront}
pub use Rattle.cns_units.specs.Words.{text_line}
pub use Rattle.cns_units.specs.declared.fault.UnitFault.{UnitFault}
pub use Rattle.cns_units.specs.declared.rate.Rate.{Rate}
pub use Rattle.cns_terms.specs.Actions.{AreHolders}
pub use Rattle.cns_terms.specs.Ages.{age, carried, closes_short, exchanges_today, forerunners, forerunners_today, oldest}
pub use Rattle.cns_terms.specs.Batches.{Liables, batch_at, called, chosen, fills_before, is_called, liable_of, short_of, shorts}
pub use Rattle.cns_terms.specs.Conversions.{converted, fraction, in_exchange, in_lieu}
pub use Rattle.cns_terms.specs.Days.{at_close, closed_on, closes, closings, date, day, is_close, is_not_after, is_same_day, last_close, open_day}
pub use Rattle.cns_terms.specs.Digits.{binary_digits}
pub use Rattle.cns_terms.specs.Dividends.{as_of, cash, dividend, dividends, last_date, member_dividend, pays_before}
pub use Rattle.cns_terms.specs.Entries.{against_corporation, buyer_entry, corporation, entries, entry, execution_entries, fill_entry, holders, journal, moved_in, moved_out, new_entry, old_entry, originator_entry, posting, seller_entry, split_entry, trade_entries}
pub use Rattle.cns_terms.specs.Fills.{batch, batch_since, batches, batches_since, brought, capacity, charged, executes, filled, fills, fills_of, given_to, left_of, room, room_of, stretch, stretch_at}
pub use Rattle.cns_terms.specs.History.{IsLegal, accepted, commands_of, count, replies_of, state}
pub use Rattle.cns_terms.specs.Holdings.{holding, oldest_of}
pub use Rattle.cns_terms.specs.Keys.{entry_key, key_after, key_cmp, row_key}
pub use Rattle.cns_terms.specs.Limits.{IsWithin, amount_limit, booking_limit, corporation_limit, history_limit, member_limit, money_limit, position_limit, price_limit, rate_limit, ratio_limit, shares_limit}
pub use Rattle.cns_terms.specs.Listings.{account_lt, accounts, added as member_added, exchanged, is_account, is_listed, is_member, is_retired, is_seen, issue_lt, issues, members, price, priced}
pub use Rattle.cns_terms.specs.Machine.{State, after, answer, answer_to, journal_of, next, opened, replies}
pub use Rattle.cns_terms.specs.Marks.{mark, value}
pub use Rattle.cns_terms.specs.Notices.{Notice, execution, first_reached, is_given, is_live, notice, notice_at, noticed, notices, receipt, remaining, shares_executed, stage, what_remains}
pub use Rattle.cns_terms.specs.Pending.{bought_in, due, is_due, pend_of, pending, sold_in, trades, waits_in}
pub use Rattle.cns_terms.specs.Positions.{cents_for, money, position, shares_for}
pub use Rattle.cns_terms.specs.Postings.{Journal, Posting, activities}
pub use Rattle.cns_terms.specs.Reached.{IsCommandInRange, IsInRange, IsRatio, IsReached}
pub use Rattle.cns_terms.specs.Refusals.{Rule, first_refusal, is_beyond, is_exceeded, is_past, is_too_far, is_too_large, is_too_large_at, places, refusal, rules, rules_of}
pub use Rattle.cns_terms.specs.Sheets.{DaySheet, day_sheet, is_idle, row, rows_for, rows_of, sheet_at, sheet_on, sheet_prices, sheet_rows, statement}
pub use Rattle.cns_terms.specs.Sources.{Told}
pub use Rattle.cns_terms.specs.Sums.{changed_at, greatest, in_order, long, same_issue, short, total}
pub use Rattle.cns_terms.specs.declared.action.Declared.{Declared}
pub use Rattle.cns_terms.specs.declared.buy_in.Short.{Short}
