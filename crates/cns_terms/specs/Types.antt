-- The types, and the words of other libraries, that most definitions cite, passed on from one place. Declares nothing.
pub use Rattle.cns_terms.specs.declared.action.Exchange.{Exchange}
pub use Rattle.cns_terms.specs.declared.buy_in.Execution.{Execution}
pub use Rattle.cns_terms.specs.declared.buy_in.Fill.{Fill}
pub use Rattle.cns_terms.specs.declared.buy_in.Liable.{Liable}
pub use Rattle.cns_terms.specs.declared.command.Activity.{Activity}
pub use Rattle.cns_terms.specs.declared.command.Command.{Command}
pub use Rattle.cns_terms.specs.declared.command.Movement.{Movement}
pub use Rattle.cns_terms.specs.declared.command.Trade.{Trade}
pub use Rattle.cns_terms.specs.declared.holding.Entry.{Entry}
pub use Rattle.cns_terms.specs.declared.holding.Key.{Key}
pub use Rattle.cns_terms.specs.declared.pend.Pend.{Pend}
pub use Rattle.cns_terms.specs.declared.refusal.Refusal.{Refusal}
pub use Rattle.cns_terms.specs.declared.reply.Reply.{Reply}
pub use Rattle.cns_terms.specs.declared.sheet.Row.{Row}
pub use Rattle.cns_units.specs.Day.{day_number}
pub use Rattle.cns_units.specs.declared.account.Account.{Account}
pub use Rattle.cns_units.specs.declared.account.Member.{Member}
pub use Rattle.cns_units.specs.declared.cusip.Cusip.{Cusip}
pub use Rattle.cns_units.specs.declared.day.Day.{Day}
pub use Rattle.cns_units.specs.declared.price.Price.{Price}
pub use Rattle.cns_units.specs.declared.ratio.Ratio.{Ratio}
pub use Rattle.std.specs.Cmp.Lexicographic.{slice_cmp}
pub use Rattle.std.specs.List.{AllByRecursion, enumerate_from, list_any}
pub use Rattle.std.specs.Option.{option_map_or}
pub use Rattle.std.specs.Ordering.{int_eq, is_lt, nat_cmp, ordering_then}
