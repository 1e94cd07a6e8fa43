-- The names that most proofs cite, passed on from one place. Declares nothing.
pub use Rattle.std.proofs.Common.{Bool, Err, FitsSigned, IfSome, List, None, Ok, Option, Ordering, Some, [], ap, append-nil, append_assoc, arith, bytes_eq, cond, eqb, false, filter, filter_map, flat_map, inl, inr, int_lt, is_eq, is_none, length, map, neg_ℤ, nat_lt, not, option_and_then, option_map, option_to_list, pos, refl, reverse, slice_get, subst, suc, sum_by, sym, take, take-suc, true, unsigned_abs, unwrap_or, zero, ℕ, ℤ, ◌&&◌, ◌*ℤ◌, ◌*◌, ◌++◌, ◌+ℤ◌, ◌+◌, ◌-ℤ◌, ◌-◌, ◌<◌, ◌==◌, ◌^◌, ◌||◌, ◌∙◌, ◌∷◌, ◌≡◌, ◌≤◌, ◌⊎◌}
pub use Rattle.std.proofs.lemmas.Int.{SFits-int_wrap, fits_signed_from_abs, int_wrap-add_right, int_wrap-add_same, int_wrap_fits, ints}
pub use Rattle.std.proofs.lemmas.Bool.{cases_Bool, cond_both}
pub use Rattle.std.proofs.lemmas.List.{nil_from_length, take_all}
pub use Rattle.std.proofs.lemmas.List.Sums.{fold-append, sum_by-cons}
pub use Rattle.std.specs.BTreeMap.{get}
pub use Rattle.std.specs.Int.{Width, int_wrap, w128, w64}
pub use Rattle.std.specs.List.{AllByRecursion, cons_option, fold, range_with_len}
pub use mir.Val.{hbits}
pub use Rattle.cns_book.specs.Log.{Log, state_of}
pub use Rattle.cns_book.specs.Shown.{entry_at, notice_of}
pub use Rattle.cns_feed.specs.Line.{Line}
pub use Rattle.cns_feed.specs.Output.{state_after_line}
unfoldable pub use Rattle.cns_feed.specs.Replay.{log_after}
pub use Rattle.cns_feed.specs.Replay.{blank_log, log_after_line}
unfoldable pub use Rattle.cns_history.specs.Lines.{history, numbers}
pub use Rattle.cns_history.specs.Lines.{accounts_in, booked, booked_since, booking, bookings_at, bookings_since, both, closing, counted_from, each, has_position, is_movement, is_nothing, is_open, is_wanted, lines_at, lines_of, named, place, places, row_on, standing, stood}
pub use Rattle.cns_sheets.specs.Search.{prices_above, row_at}
pub use Rattle.cns_terms.proofs.BuyIns.{each_named, execution_cents}
pub use Rattle.cns_terms.proofs.Common.{Account, Cusip, Day, IsReached, IsSound, IsWhole, Journal, NoneHolds, Notice, Price, State, accounts, added-more, against_corporation, all_fail, amount_limit, and_false, answer, bytes_eq-Decides, cases_lt, cents_for, corporation, date, day_number, each_append, entries, equal, exact_keys, fill_entry, fills, filter-append, holders, holds, idle_parts, is_account, is_close, is_idle, is_listed, is_same_day, issues, journal, journal_of, key_cmp, last_close, length-reverse, limited, list_any, magnitude, members, money, money_limit, nat_list_eq_equiv, nat_tests, neither, new_entry, next, notice_at, notices, old_entry, open_day, opened, option_map_or, pend_of, pending, posting, price, price_limit, refusal, reverse_onto, row, row_key, rows_of, same_key, shares_for, shares_limit, shares_of_fills, sheet_rows, total, total-append, total_small, trade_entries, trades}
pub use Rattle.cns_terms.specs.declared.holding.Entry.{Entry}
pub use Rattle.cns_terms.specs.declared.pend.Pend.{Pend}
pub use Rattle.cns_terms.proofs.Sound.{IsNoticed, both_hold, whole-next, whole-post, whole_nil}
pub use Rattle.cns_terms.specs.Listings.{traded}
pub use Rattle.cns_terms.specs.Positions.{position}
pub use Rattle.cns_terms.specs.declared.command.Trade.{Trade}
pub use Rattle.cns_terms.specs.declared.holding.Holding.{Holding}
pub use Rattle.cns_terms.specs.declared.reply.Reply.{Reply}
pub use Rattle.cns_account.specs.Dividends.{due_on, paid_in}
pub use Rattle.cns_account.specs.Fails.{issues_behind}
unfoldable pub use Rattle.cns_account.specs.Laws.{closes}
pub use Rattle.cns_account.specs.Laws.{AddUp, IsLineInRange, MovesAddUp, PlacesAreWhole, day_closed, is_line_at, is_moved, last_of, of_causes}
pub use Rattle.cns_account.specs.Moves.{AreMoves, is_within, moved_at, of_cause, settled_by, unmoved, with_entry, with_line, with_more, with_taken, with_trade}
pub use Rattle.cns_account.specs.Past.{date_told}
pub use Rattle.cns_history.specs.Entries.{accepted_of, looked_at}
unfoldable pub use Rattle.cns_account.specs.Rows.{moved, valued}
pub use Rattle.cns_account.specs.Common.{Activity, Booking, Command, Key, Row, HistoryLine, Moved, Moves, Taken}
pub use Rattle.cns_history.specs.declared.play.Watched.{Watched}
pub use Rattle.cns_history.specs.declared.play.Whose.{Whose}
pub use Rattle.cns_terms.specs.Entries.{buyer_entry, seller_entry, split_entry}
pub use Rattle.std.proofs.lemmas.Grind.{common_steps}
