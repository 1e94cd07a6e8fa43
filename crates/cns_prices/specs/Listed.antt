-- The listed issues, as a finite map in the order of the bytes of their CUSIPs.
use Rattle.std.specs.Prelude.{◌≡◌, if◌then◌else◌, Bool, true, false, List, map, filter, Option, Some, None, option_map}
use Rattle.cns_terms.specs.Common.{Cusip, Price, is_eq, is_lt, lookup, nat_cmp, option_map_or, slice_cmp}
use Rattle.cns_prices.specs.declared.prices.Quote.{Quote}

-- the issues, each with what is known of it
abbrev pub Listed : Type 0
Listed = List (Cusip × Quote)

-- what is known of an issue, if it is listed
abbrev pub quote_in : Listed → Cusip → Option Quote
quote_in issues c = lookup (λ d. is_eq (slice_cmp nat_cmp c d)) issues

-- the price of an issue, if it is listed
abbrev pub price_in : Listed → Cusip → Option Price
price_in issues c = option_map (λ q. q.price) (quote_in issues c)

-- whether an issue is retired
abbrev pub retired_in : Listed → Cusip → Bool
retired_in issues c = option_map_or (λ q. q.retired) (quote_in issues c) false

-- whether an issue comes after another, if there is one
abbrev pub is_after : Option Cusip → Cusip → Bool
is_after None c = true
is_after (Some low) c = is_lt (slice_cmp nat_cmp low c)

-- the issues above another with their prices, retired ones too
abbrev pub listed_above : Listed → Option Cusip → List (Cusip × Price)
listed_above issues after = map (λ e. (e.0, e.1.price)) (filter (λ e. is_after after e.0) issues)

-- the issues have the quote at the issue, and at each other what they had
abbrev pub Quotes : Listed → Listed → Cusip → Quote → Type 0
Quotes old new k q = (c : Cusip) → quote_in new c ≡ (if is_eq (slice_cmp nat_cmp k c) then Some q else quote_in old c)
