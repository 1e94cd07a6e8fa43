-- What is looked up in a sheet.
use Rattle.std.specs.Prelude.{List, filter, Option}
use Rattle.cns_sheets.specs.Common.{Cusip, key_cmp, find, Key, Row, is_after}
use Rattle.cns_sheets.specs.Build.{PriceList, by_key}

-- the row of an account in an issue, if there is one
abbrev pub row_at : List Row → Key → Option Row
row_at rows k = find key_cmp k (by_key rows)

-- the prices of the issues above another, or all of them
abbrev pub prices_above : PriceList → Option Cusip → PriceList
prices_above prices after = filter (λ e. is_after after e.0) prices
