-- The mark of a day: the current market value less that of the close before, and the cents booked.
use Rattle.std.specs.Prelude.{ℤ, pos, ◌+ℤ◌, ◌-ℤ◌, ◌*ℤ◌}
use Rattle.cns_terms.specs.Types.{Account, Cusip}
use Rattle.cns_terms.specs.Postings.{Journal}
use Rattle.cns_terms.specs.Days.{last_close}
use Rattle.cns_terms.specs.Positions.{position, money}
use Rattle.cns_terms.specs.Listings.{price}

-- a position at the issue's price
abbrev pub value : Journal → Account → Cusip → ℤ
value J a c = position J a c *ℤ pos (price J c)

-- the mark of the day that a close ends, where K is the journal as that close found it
abbrev pub mark : Journal → Account → Cusip → ℤ
mark K a c = (value K a c -ℤ value (last_close K) a c) +ℤ money K a c
