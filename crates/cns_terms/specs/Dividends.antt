-- Dividends: what is paid, and when.
use Rattle.std.specs.Prelude.{ℤ, pos, ◌*ℤ◌, neg_ℤ, int_div, int_lt, Bool, true, not, ◌&&◌, ◌==◌, List, [], Option, Some, None, option_map, unwrap_or, find, filter, filter_map, slice_get, if◌then◌else◌}
use Rattle.cns_terms.specs.Types.{option_map_or, day_number, Account, Cusip, Day, Activity}
use Rattle.cns_units.specs.declared.rate.Rate.{Rate}
use Rattle.cns_terms.specs.declared.action.Declared.{Declared}
use Rattle.cns_terms.specs.Sums.{total, same_issue}
use Rattle.cns_terms.specs.Postings.{Journal, activities}
use Rattle.cns_terms.specs.Days.{closings, date, is_not_after}
use Rattle.cns_terms.specs.Positions.{position}
use Rattle.cns_terms.specs.Listings.{members}
use Rattle.cns_terms.specs.Entries.{corporation}

-- the dividend that an activity declares
abbrev pub declared : Activity → Option Declared
declared (Activity.Dividend d) = Some d
declared _ = None

-- the dividends that were declared, the newest first
abbrev pub dividends : Journal → List Declared
dividends J = filter_map declared (activities J)

-- the cash on a position, in cents cut towards zero; the rate is in millionths of a dollar
abbrev pub cash : ℤ → Rate → ℤ
cash q rate = int_div (q *ℤ pos rate) (pos 10000)

-- the order in which dividends are paid: by the payable date
abbrev pub pays_before : Declared → Declared → Bool
pays_before d e = int_lt (day_number d.payable) (day_number e.payable)

-- whether a dividend is paid at the close of a date: it is payable by then, and was not at the close before
abbrev pub is_due : Option Day → Day → Declared → Bool
is_due last this d = option_map_or (λ day. not (is_not_after d.payable day)) last true && is_not_after d.payable this

-- the date of the last close, if a day is closed
abbrev pub last_date : Day → Journal → Option Day
last_date opening K = option_map (date opening) (slice_get (closings K) 0)

-- the dividends in an issue that are paid at the close that found the journal so
abbrev pub due : Day → Journal → Cusip → List Declared
due opening K c = filter (λ d. same_issue d.issue c && is_due (last_date opening K) (date opening K) d) (dividends K)

-- the journal as the last close dated on or before the day found it; empty where there is none
abbrev pub as_of : Day → Journal → Day → Journal
as_of opening K d = unwrap_or (find (λ P. is_not_after (date opening P) d) (closings K)) []

-- what a member is paid or pays of them: the cash on its position at the close of each record date
abbrev pub member_dividend : Day → Journal → Cusip → Account → ℤ
member_dividend opening K c a = total (λ d. cash (position (as_of opening K d.recorded) a c) d.rate) (due opening K c)

-- the cents of dividends booked for an account in an issue; the corporation's are the opposite of the members' sum
abbrev pub dividend : Day → Journal → Account → Cusip → ℤ
dividend opening K a c = if a == corporation then neg_ℤ (total (member_dividend opening K c) (members K)) else member_dividend opening K c a
