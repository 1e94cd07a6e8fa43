-- Holdings and cents of dividends, woven into one list by their keys.
use Rattle.std.specs.Prelude.{ℤ, pos, Bool, true, not, List, [], ◌∷◌, ◌++◌, map, filter, Option, Some, None, unwrap_or}
use Rattle.cns_sheets.specs.Common.{is_idle, is_lt, key_cmp, find, Holding, Key, Row, Rows, zeros}
use Rattle.cns_sheets.specs.Build.{PriceList, price_on, priced_row}

-- cents by key
abbrev pub CentsByKey : Type 0
CentsByKey = List (Key × ℤ)

-- holdings, each with the cents of its key
abbrev pub Woven : Type 0
Woven = List (Key × (Holding × ℤ))

-- the cents at a key, 0 where there are none
abbrev pub cents_at : CentsByKey → Key → ℤ
cents_at cs k = unwrap_or (find key_cmp k cs) (pos 0)

-- whether a key is below another, if there is one
abbrev pub is_below : Option Key → Key → Bool
is_below None k = true
is_below (Some high) k = is_lt (key_cmp k high)

-- the cents of lower keys
abbrev pub lower : Option Key → CentsByKey → CentsByKey
lower high cs = filter (λ c. is_below high c.0) cs

-- the cents of higher keys
abbrev pub higher : Key → CentsByKey → CentsByKey
higher k cs = filter (λ c. is_lt (key_cmp k c.0)) cs

-- the cents that aren't of lower keys
abbrev pub past : Option Key → CentsByKey → CentsByKey
past high cs = filter (λ c. not (is_below high c.0)) cs

-- the first that was read ahead, with the rest
abbrev pub left_of : Option (Key × ℤ) → CentsByKey → CentsByKey
left_of None rest = []
left_of (Some c) rest = c ∷ rest

-- cents of keys without holdings
abbrev pub unheld : CentsByKey → Woven
unheld cs = map (λ c. (c.0, (zeros, c.1))) cs

-- holdings and cents, in the order of keys if both are
abbrev pub weave : Rows → CentsByKey → Woven
weave [] cs = unheld cs
weave (h ∷ hs) cs = unheld (lower (Some h.0) cs) ++ ((h.0, (h.1, cents_at cs h.0)) ∷ weave hs (higher h.0 cs))

-- the row of a holding and cents, by the prices of two lists
abbrev pub woven_row : PriceList → PriceList → Key × (Holding × ℤ) → Row
woven_row before now e = priced_row (unwrap_or (price_on before e.0.issue) 0) (unwrap_or (price_on now e.0.issue) 0) e.1.1 (e.0, e.1.0)

-- the rows that say something
abbrev pub woven_rows : PriceList → PriceList → Woven → List Row
woven_rows before now es = filter (λ r. not (is_idle r)) (map (woven_row before now) es)
