-- The rows in an issue, found account by account.
use Rattle.std.specs.Prelude.{◌≡◌, ◌+◌, ◌≤◌, ◌&&◌, Bool, false, not, nat_lt, if◌then◌else◌, IfSome, List, Option, Some, None}
use Rattle.cns_sheets.specs.Common.{AllByRecursion, Cusip, is_lt, key_cmp, member_limit, nat_cmp, same_issue, slice_cmp, Key, Row}
use Rattle.std.specs.List.{filter}
use Rattle.cns_sheets.specs.Build.{Columns, full_rows}

-- whether a key is another or above it, if there is another
abbrev pub reaches : Option Key → Key → Bool
reaches None k = false
reaches (Some low) k = not (is_lt (key_cmp k low))

-- whether a key is in an issue, and is another or above it
abbrev pub is_next_in : {V : Type 0} → Cusip → Option Key → Key × V → Bool
is_next_in c from e = same_issue e.0.issue c && reaches from e.0

-- the keys in an issue, from another on, with the columns there
abbrev pub entries_from : List (Key × Columns) → Cusip → Option Key → List (Key × Columns)
entries_from es c from = filter (is_next_in c from) es

-- their rows
abbrev pub rows_from : List (Key × Columns) → Cusip → Option Key → List Row
rows_from es c from = full_rows (entries_from es c from)

-- the lowest key of an issue above another key, where an account is left
abbrev pub place_after : Key → Cusip → Option Key
place_after k c =
    if is_lt (slice_cmp nat_cmp k.issue c) then Some (record { account = k.account; issue = c })
    else (if nat_lt k.account member_limit then Some (record { account = k.account + 1; issue = c }) else None)

-- the accounts of keys are accounts
abbrev pub AreAccounts : {V : Type 0} → List (Key × V) → Type 0
AreAccounts es = AllByRecursion (λ e. e.0.account ≤ member_limit) es

-- a place in an issue, if there is one
abbrev pub IsPlaceIn : Cusip → Option Key → Type 0
IsPlaceIn c from = IfSome from (λ k. (k.issue ≡ c) × (k.account ≤ member_limit))
