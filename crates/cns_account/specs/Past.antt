-- What replies tell of closed days, exchanges and dividends.
use Rattle.std.specs.Prelude.{◌≡◌, [], ◌++◌, Option, Some, None}
use Rattle.std.specs.List.{cons_option}
use Rattle.cns_account.specs.Common.{Day, exchanged, declared, Command, Past}
use Rattle.cns_history.specs.Entries.{accepted_of}
use Rattle.cns_terms.specs.declared.reply.Reply.{Reply}

-- the date of the closed day that a reply tells
abbrev pub date_told : Reply → Option Day
date_told (Reply.Closed c) = Some c.date
date_told _ = None

-- what the reply to a command told was added: the date of a closed day, an accepted exchange, an accepted dividend
pub record IsNoted (cmd : Command) (r : Reply) (old new : Past) : Type 0 where
  pub days : new.days.items ≡ old.days.items ++ cons_option (date_told r) []
  pub exchanges : new.exchanges.items ≡ old.exchanges.items ++ cons_option (accepted_of exchanged cmd r) []
  pub dividends : new.dividends.items ≡ old.dividends.items ++ cons_option (accepted_of declared cmd r) []
