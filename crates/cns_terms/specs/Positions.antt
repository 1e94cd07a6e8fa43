-- Positions, and the cents of the open day.
use Rattle.std.specs.Prelude.{ℤ, pos, ◌&&◌, ◌==◌, if◌then◌else◌}
use Rattle.cns_terms.specs.Types.{Account, Cusip, Entry}
use Rattle.cns_terms.specs.Sums.{total, same_issue}
use Rattle.cns_terms.specs.Postings.{Journal}
use Rattle.cns_terms.specs.Days.{open_day}

-- an entry's shares, if it is of the account and the issue
abbrev pub shares_for : Account → Cusip → Entry → ℤ
shares_for a c e = if (e.account == a) && same_issue e.issue c then e.shares else pos 0

-- an entry's cents, likewise
abbrev pub cents_for : Account → Cusip → Entry → ℤ
cents_for a c e = if (e.account == a) && same_issue e.issue c then e.cents else pos 0

-- the shares booked for an account in an issue
abbrev pub position : Journal → Account → Cusip → ℤ
position J a c = total (λ p. total (shares_for a c) p.entries) J

-- the cents booked for it on the open day, with those that the last close booked
abbrev pub money : Journal → Account → Cusip → ℤ
money J a c = total (λ p. total (cents_for a c) p.entries) (open_day J)
