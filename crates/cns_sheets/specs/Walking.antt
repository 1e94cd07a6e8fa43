-- The rows of an account, found from its first row on.
use Rattle.std.specs.Prelude.{◌≡◌, ◌≤◌, ◌==◌, true, if◌then◌else◌, List, [], ◌∷◌, Option, Some, None}
use Rattle.cns_sheets.specs.Common.{Account, AllByRecursion, is_sorted, key_cmp, row_key, rows_for, Key, Row}
use Rattle.cns_sheets.specs.Build.{Columns, by_key, full_row}
use Rattle.cns_sheets.specs.LowestCusip.{lowest}

-- a row that was read ahead, with those of the account that follow; without one nothing is left
abbrev pub ahead_of : Option Row → List Row → Account → List Row
ahead_of None rest a = []
ahead_of (Some r) rest a = r ∷ rows_for rest a

-- rows in the order of keys, none of a lower account
pub record AreFrom (a : Account) (rows : List Row) : Type 0 where
  pub rise : is_sorted key_cmp (by_key rows) ≡ true
  pub past : AllByRecursion (λ r. a ≤ r.account) rows

-- the row of a key and columns that were found, if it is of the account
abbrev pub if_of : Account → Option (Key × Columns) → Option Row
if_of a None = None
if_of a (Some e) = if e.0.account == a then Some (full_row e) else None

-- the lowest key of an account
abbrev pub lowest_of : Account → Key
lowest_of a = record { account = a; issue = lowest }

-- the key of a row that was found, or else the lowest of the account
abbrev pub passed : Account → Option Row → Key
passed a None = lowest_of a
passed a (Some r) = row_key r
