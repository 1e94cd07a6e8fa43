-- The dividends that a close pays.
-- For `due` of dividends.rt.
use Rattle.cns_dividends.proofs.Common.{◌≡◌, refl, ℕ, ◌<◌, Bool, [], ◌∷◌, filter, Option, Some, None, arith, int_cmp, Day, Included, day_number, nat_tests, range_contains, IsLeBy, IsLtBy, IsForward, on, ord_min, Declared, AreBelow, Placed, dividends_of}
use Rattle.std.specs.declared.ops.Bound.{Bound}
use Rattle.std.specs.declared.ops.Bound.TheVariants.{Excluded, Unbounded}
use Rattle.cns_terms.specs.Dividends.{is_due}
use Rattle.cns_dividends.proofs.Places.{place_cmp}

-- where a search begins: behind the day of the last close, or behind this one where that comes before it
abbrev pub start_of : Option Day → Day → ℕ → Bound (Day × ℕ)
start_of None this n = Unbounded
start_of (Some day) this n = Excluded (ord_min (on day_number int_cmp) day this, n)

-- whether a search from the one to the other finds a place
abbrev is_between : Bound (Day × ℕ) → Bound (Day × ℕ) → Day × ℕ → Bool
is_between = range_contains place_cmp

-- the search finds a dividend's place exactly where it is due
from_start : (last : Option Day) (this : Day) (n : ℕ) (e : (Day × ℕ) × Declared) → e.0.0 ≡ e.1.payable → e.0.1 < n → is_between (start_of last this n) (Included (this, n)) e.0 ≡ is_due last this e.1
from_start last this n e same h = grind (arith, nat_tests)

-- a search from behind the last close to the end of this one's day finds the dividends that are due
pub due_between : (last : Option Day) (this : Day) (n : ℕ) (es : Placed) → AreBelow n es
    → dividends_of (filter (λ e. is_between (start_of last this n) (Included (this, n)) e.0) es) ≡ filter (is_due last this) (dividends_of es)
due_between last this n [] h = refl
due_between last this n (e ∷ es) h = grind (arith, from_start last this n e, due_between last this n es h.2)

-- the search does not begin behind its end
pub forward : (last : Option Day) (this : Day) (n : ℕ) → IsForward (IsLeBy place_cmp) (IsLtBy place_cmp) (start_of last this n) (Included (this, n))
forward last this n = grind arith
