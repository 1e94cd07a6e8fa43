-- What the program writes for a line that is refused.
use Rattle.std.specs.Prelude.{ℕ, List, [], ◌∷◌, ◌++◌, codes}

-- the usage
abbrev pub usage_line : List ℕ
usage_line = codes "usage: cnspage --open DATE [--day DATE|today] [--account N [--issue CUSIP] | --folder DIR] < RECORDS" ++ 10 ∷ []
