-- Sums, lists in order, and lists changed at a place.
use Rattle.std.specs.Prelude.{ℕ, zero, suc, max, ℤ, pos, negsuc, ◌+ℤ◌, Bool, List, [], ◌∷◌, bytes_eq, if◌then◌else◌}
use Rattle.cns_terms.specs.Types.{Cusip}

-- f of each, added up
abbrev pub total : {X : Type 0} → (X → ℤ) → List X → ℤ
total f [] = pos 0
total f (x ∷ xs) = f x +ℤ total f xs

-- the greatest of f at each; 0 where there is none
abbrev pub greatest : {X : Type 0} → (X → ℕ) → List X → ℕ
greatest f [] = 0
greatest f (x ∷ xs) = max (f x) (greatest f xs)

-- how much a position is below 0
abbrev pub short : ℤ → ℕ
short (pos n) = 0
short (negsuc n) = suc n

-- how much it is above 0
abbrev pub long : ℤ → ℕ
long (pos n) = n
long (negsuc n) = 0

-- whether two identifiers are the same
abbrev pub same_issue : Cusip → Cusip → Bool
same_issue = bytes_eq

-- x put in its place among others that are in order
abbrev pub put : {X : Type 0} → (X → X → Bool) → X → List X → List X
put before x [] = x ∷ []
put before x (y ∷ ys) = if before x y then x ∷ y ∷ ys else y ∷ put before x ys

-- a list in order
abbrev pub in_order : {X : Type 0} → (X → X → Bool) → List X → List X
in_order before [] = []
in_order before (x ∷ xs) = put before x (in_order before xs)

-- a list whose item at a place is changed by f
abbrev pub changed_at : {X : Type 0} → (X → X) → ℕ → List X → List X
changed_at f i [] = []
changed_at f zero (x ∷ xs) = f x ∷ xs
changed_at f (suc i) (x ∷ xs) = x ∷ changed_at f i xs
