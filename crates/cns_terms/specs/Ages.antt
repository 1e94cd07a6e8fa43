-- Ages of shorts, which exchanges carry into the successor.
use Rattle.std.specs.Prelude.{ℕ, zero, suc, ◌+◌, max, pos, int_lt, List, [], ◌∷◌, filter, filter_map, length, if◌then◌else◌, flat_map}
use Rattle.cns_terms.specs.Types.{Account, Cusip, Exchange}
use Rattle.cns_terms.specs.Sums.{greatest, same_issue}
use Rattle.cns_terms.specs.Postings.{Journal, activities}
use Rattle.cns_terms.specs.Days.{closings, open_day}
use Rattle.cns_terms.specs.Listings.{exchanged}
use Rattle.cns_terms.specs.Positions.{position}

-- the exchanges of the open day
abbrev pub exchanges_today : Journal → List Exchange
exchanges_today J = filter_map exchanged (activities (open_day J))

-- the issues that exchanges turned into an issue: the old ones of those whose successor it is, and with each the issues that
-- had been turned into that one, as many exchanges back as are counted
abbrev pub forerunners : ℕ → List Exchange → Cusip → List Cusip
forerunners zero xs c = []
forerunners (suc n) xs c = flat_map (λ x. x.old ∷ forerunners n xs x.old) (filter (λ x. same_issue x.successor c) xs)

-- those of the open day, whatever the order of its exchanges: none has more of them behind it than there are
abbrev pub forerunners_today : Journal → Cusip → List Cusip
forerunners_today J c = let xs = exchanges_today J in forerunners (length xs) xs c

-- at how many closes in a row, from the newest back, the position was below 0, be it in the issue or in one that was turned
-- into it: of several the greatest counts
abbrev pub closes_short : List Journal → Account → Cusip → ℕ
closes_short [] a c = 0
closes_short (K ∷ Ks) a c =
    if int_lt (position K a c) (pos 0) then 1 + greatest (closes_short Ks a) (c ∷ forerunners_today K c) else 0

-- the age of a short at the last close
abbrev pub age : Journal → Account → Cusip → ℕ
age J a c = closes_short (closings J) a c

-- the greatest age that the exchanges of the open day brought
abbrev pub carried : Journal → Account → Cusip → ℕ
carried J a c = greatest (age J a) (forerunners_today J c)

-- the age to which the next close adds itself, where the account is short then
abbrev pub oldest : Journal → Account → Cusip → ℕ
oldest J a c = max (age J a c) (carried J a c)
