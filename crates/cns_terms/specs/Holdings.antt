-- What stands at a key, and what a POSITION tells of it.
use Rattle.std.specs.Prelude.{ℕ, max}
use Rattle.cns_terms.specs.Types.{Account, Cusip, Key}
use Rattle.cns_terms.specs.declared.holding.Holding.{Holding}
use Rattle.cns_terms.specs.declared.reply.Held.{Held}
use Rattle.cns_terms.specs.Ages.{age, carried}
use Rattle.cns_terms.specs.Days.{last_close}
use Rattle.cns_terms.specs.Positions.{position, money}
use Rattle.cns_terms.specs.Postings.{Journal}

-- the age to which the next close adds itself, where the position is below 0 then
abbrev pub oldest_of : Holding → ℕ
oldest_of h = max h.run h.carried

-- what stands at a key
abbrev pub holding : Journal → Account → Cusip → Holding
holding J a c = record {
  now = position J a c;
  opening = position (last_close J) a c;
  contract = money J a c;
  run = age J a c;
  carried = carried J a c;
}

-- what a POSITION tells of what stands at a key
abbrev pub held_of : Key → Holding → Held
held_of k h = record { contract = h.contract; position = h.now; opening = h.opening; age = h.run; key = k }
