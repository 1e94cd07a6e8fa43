-- The entries of a book's history.
use Rattle.std.specs.Prelude.{◌-◌, ◌^◌, List, Option, None, reverse, take}
use Rattle.cns_history.specs.Common.{Activity}
use Rattle.cns_terms.specs.Listings.{traded}
use Rattle.cns_terms.specs.declared.command.Command.{Command}
use Rattle.cns_terms.specs.declared.command.Trade.{Trade}
use Rattle.cns_terms.specs.declared.history.Taken.{Taken}
use Rattle.cns_terms.specs.declared.reply.Reply.{Reply}

-- those that are looked at, the oldest first: all, or all but the last where there are 2^32 - 1, the most that a book takes
abbrev pub looked_at : List Taken → List Taken
looked_at H = take (2 ^ 32 - 2) (reverse H)

-- what is read of an activity, where it was accepted
abbrev pub accepted_of : {X : Type 0} → (Activity → Option X) → Command → Reply → Option X
accepted_of f (Command.Activity x) Reply.Accepted = f x
accepted_of f _ _ = None

-- the trade of an entry, where it was accepted
abbrev pub trade_of : Taken → Option Trade
trade_of t = accepted_of traded t.command t.reply
