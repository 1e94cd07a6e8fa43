-- Members, issues, prices, retired issues and references.
use Rattle.std.specs.Prelude.{◌∷◌, ℕ, Bool, ◌==◌, List, Option, Some, None, find, filter_map, map}
use Rattle.cns_terms.specs.Types.{list_any, option_map_or, nat_cmp, is_lt, slice_cmp, Account, Member, Cusip, Price, Exchange, Activity, Trade}
use Rattle.cns_terms.specs.declared.command.Listing.{Listing}
use Rattle.cns_terms.specs.Sums.{same_issue, in_order}
use Rattle.cns_terms.specs.Postings.{Journal, activities}

-- the member that an activity adds
abbrev pub added : Activity → Option Member
added (Activity.Member m) = Some m
added _ = None

-- the listing that an activity makes
abbrev pub listed : Activity → Option Listing
listed (Activity.Issue l) = Some l
listed _ = None

-- the listing by which an activity sets a price
abbrev pub priced : Activity → Option Listing
priced (Activity.Issue l) = Some l
priced (Activity.Price l) = Some l
priced _ = None

-- the trade that an activity is
abbrev pub traded : Activity → Option Trade
traded (Activity.Trade t) = Some t
traded _ = None

-- the exchange that an activity is
abbrev pub exchanged : Activity → Option Exchange
exchanged (Activity.Exchange x) = Some x
exchanged _ = None

-- the issue that an activity replaces by its successor
abbrev pub replaced : Activity → Option Cusip
replaced (Activity.Exchange x) = Some x.old
replaced _ = None

-- the order of accounts, by their numbers
abbrev pub account_lt : Account → Account → Bool
account_lt a b = is_lt (nat_cmp a b)

-- the order of CUSIPs, by their bytes
abbrev pub issue_lt : Cusip → Cusip → Bool
issue_lt c d = is_lt (slice_cmp nat_cmp c d)

-- the members, by number
abbrev pub members : Journal → List Member
members J = in_order account_lt (filter_map added (activities J))

-- the listed issues, by their bytes, retired ones too
abbrev pub issues : Journal → List Cusip
issues J = in_order issue_lt (map (λ l. l.issue) (filter_map listed (activities J)))

-- the accounts: the corporation's and the members'
abbrev pub accounts : Journal → List Account
accounts J = 0 ∷ members J

-- whether the number is a member's
abbrev pub is_member : Journal → Member → Bool
is_member J a = list_any (λ b. a == b) (members J)

-- whether the account is there: the corporation's always is
abbrev pub is_account : Journal → Account → Bool
is_account J a = list_any (λ b. a == b) (accounts J)

-- whether the issue is listed
abbrev pub is_listed : Journal → Cusip → Bool
is_listed J c = list_any (λ d. same_issue d c) (issues J)

-- the price last set, by a listing or a PRICE; 0 before the issue is listed
abbrev pub price : Journal → Cusip → Price
price J c = option_map_or (λ l. l.price) (find (λ l. same_issue l.issue c) (filter_map priced (activities J))) 0

-- whether the issue is retired for good
abbrev pub is_retired : Journal → Cusip → Bool
is_retired J c = list_any (λ d. same_issue d c) (filter_map replaced (activities J))

-- whether an accepted trade has the reference
abbrev pub is_seen : Journal → ℕ → Bool
is_seen J r = list_any (λ t. t.reference == r) (filter_map traded (activities J))
