-- The names that most definitions cite, passed on from one place. Declares nothing.
pub use Rattle.cns_notices.specs.Noticed.{remaining_of, notice_at as kept_at}
pub use Rattle.cns_notices.specs.declared.noticed.Noticed.{Noticed}
pub use Rattle.cns_positions.specs.Rows.{Rows, has_row, holding_at}
pub use Rattle.cns_prices.specs.Listed.{Listed, price_in, retired_in}
pub use Rattle.cns_terms.specs.Common.{Account, AllByRecursion, Cusip, Day, DaySheet, IsInRange, IsLegal, IsReached, Journal, Liables, Member, Notice, Price, Rule, State, accepted, after, answer, answer_to, batches, batches_since, booking_limit, closes, closings, corporation, corporation_limit, count, date, day_number, day_sheet, dividends, entry_key, fill_entry, fills, history_limit, holding, in_order, is_listed, is_member, is_not_after, is_retired, is_same_day, is_seen, journal, journal_of, money_limit, moved_in, moved_out, next, notice_at, oldest_of, opened, option_map_or, originator_entry, pays_before, pend_of, pending, price, refusal, remaining, same_issue, shares_limit, short, stage, trade_entries}
pub use Rattle.cns_terms.specs.declared.action.Declared.{Declared}
pub use Rattle.cns_terms.specs.declared.command.Activity.{Activity}
pub use Rattle.cns_terms.specs.declared.command.Command.{Command}
pub use Rattle.cns_terms.specs.declared.fault.NoMemory.{NoMemory}
pub use Rattle.cns_terms.specs.declared.history.Taken.{Taken}
pub use Rattle.cns_terms.specs.declared.holding.Entry.{Entry}
pub use Rattle.cns_terms.specs.declared.holding.Holding.{Holding}
pub use Rattle.cns_terms.specs.declared.holding.Key.{Key}
pub use Rattle.cns_terms.specs.declared.refusal.Refusal.{Refusal}
pub use Rattle.cns_terms.specs.declared.reply.Reply.{Reply}
pub use Rattle.cns_terms.specs.declared.worker.Worker.{Worker}
pub use Rattle.cns_trades.specs.Used.{Traded, is_used}
pub use Rattle.cns_book.specs.declared.receipt.Receipt.{Receipt}
