-- Trades that wait for their date.
use Rattle.std.specs.Prelude.{ℕ, Bool, not, ◌&&◌, ◌==◌, List, filter, filter_map, map, reverse, sum_by, if◌then◌else◌}
use Rattle.cns_terms.specs.Types.{list_any, Account, Cusip, Day, Trade, Pend}
use Rattle.cns_terms.specs.Sums.{same_issue}
use Rattle.cns_terms.specs.Postings.{Journal, activities}
use Rattle.cns_terms.specs.Days.{date, is_not_after}
use Rattle.cns_terms.specs.Listings.{traded}

-- a trade as one that waits
abbrev pub pend_of : Trade → Pend
pend_of t = record {
  reference = t.reference;
  cents = t.money;
  shares = t.shares;
  buyer = t.buyer;
  seller = t.seller;
  date = t.date;
  issue = t.issue;
}

-- whether its date has come on a day
abbrev pub is_due : Day → Pend → Bool
is_due d p = is_not_after p.date d

-- the accepted trades, the newest first
abbrev pub trades : Journal → List Pend
trades J = map pend_of (filter_map traded (activities J))

-- those that wait: their date has not come on the open day
abbrev pub pending : Day → Journal → List Pend
pending opening J = filter (λ p. not (is_due (date opening J) p)) (trades J)

-- those of them that are due on the next day, in the order in which they were taken
abbrev pub due : Day → Journal → Day → List Pend
due opening J next = reverse (filter (is_due next) (pending opening J))

-- the shares that an account is to get in an issue by trades that wait
abbrev pub bought_in : List Pend → Account → Cusip → ℕ
bought_in ps a c = sum_by (λ p. if (p.buyer == a) && same_issue p.issue c then p.shares else 0) ps

-- and those that it is to give
abbrev pub sold_in : List Pend → Account → Cusip → ℕ
sold_in ps a c = sum_by (λ p. if (p.seller == a) && same_issue p.issue c then p.shares else 0) ps

-- whether a trade in an issue waits
abbrev pub waits_in : List Pend → Cusip → Bool
waits_in ps c = list_any (λ p. same_issue p.issue c) ps
