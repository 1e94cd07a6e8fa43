-- The declared dividends, each with its place.
use Rattle.std.specs.Prelude.{◌≡◌, ℕ, ◌<◌, List, [], ◌∷◌, map, ⊤}
use Rattle.cns_terms.specs.Common.{Day}
use Rattle.cns_terms.specs.declared.action.Declared.{Declared}

-- dividends by their places: the payable date, and a number of their own
abbrev pub Placed : Type 0
Placed = List ((Day × ℕ) × Declared)

-- the dividends alone
abbrev pub dividends_of : Placed → List Declared
dividends_of es = map (λ e. e.1) es

-- each stands at its payable date, with a number that is below the one that the next declared will have
abbrev pub AreBelow : ℕ → Placed → Type 0
AreBelow n [] = ⊤
AreBelow n (e ∷ es) = (e.0.0 ≡ e.1.payable) × (e.0.1 < n) × AreBelow n es
