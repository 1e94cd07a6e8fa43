-- The lowest CUSIP.
use Rattle.std.specs.Prelude.{[], ◌∷◌, ◌≡◌, false}
use Rattle.cns_sheets.specs.Common.{Cusip, is_lt, nat_cmp, slice_cmp}

-- `########4`: eight times the character of the lowest code that has a value, and the check digit
abbrev pub lowest : Cusip
lowest = 35 ∷ 35 ∷ 35 ∷ 35 ∷ 35 ∷ 35 ∷ 35 ∷ 35 ∷ 52 ∷ []

-- an issue that is not below the lowest CUSIP, as no CUSIP is
abbrev pub IsFromLowest : Cusip → Type 0
IsFromLowest c = is_lt (slice_cmp nat_cmp c lowest) ≡ false
