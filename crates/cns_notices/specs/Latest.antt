-- The number of the last notice of each member in each issue.
use Rattle.std.specs.Prelude.{◌≡◌, ℕ, suc, ◌-◌, ◌^◌, ◌<◌, true, List, [], ◌∷◌, length, Option, Some, None, IsSomeAnd, filter, All, slice_get}
use Rattle.cns_terms.specs.Common.{Cusip, IsNonDecreasingBy, is_eq, is_live, lookup, nat_cmp, ordering_then, same_issue, slice_cmp}
use Rattle.std.specs.Map.{keys_of}
use Rattle.std.specs.declared.cmp.Ordering.{Ordering}
use Rattle.cns_terms.specs.declared.buy_in.Stage.TheVariants.{Ended}
use Rattle.cns_notices.specs.Noticed.{brought_to, with_notice}
use Rattle.cns_notices.specs.declared.noticed.Noticed.{Noticed}
use Rattle.std.specs.BTreeMap.{BTreeMap}

-- an issue, and the number of a member
abbrev pub Place : Type 0
Place = Cusip × ℕ

-- the order of places
abbrev pub place_cmp : Place → Place → Ordering
place_cmp p q = ordering_then (slice_cmp nat_cmp p.0 q.0) (nat_cmp p.1 q.1)

-- the number at each place
abbrev pub Numbers : Type 0
Numbers = List (Place × ℕ)

-- those of a map, if there is one
abbrev pub numbers_of : Option (BTreeMap Place ℕ) → Numbers
numbers_of None = []
numbers_of (Some m) = m.entries

-- the number at a place, if there is one
abbrev pub number_at : Numbers → Place → Option ℕ
number_at ns p = lookup (λ q. is_eq (place_cmp p q)) ns

-- the number of each member has 16 bits
abbrev pub HaveSmallMembers : Numbers → Type 0
HaveSmallMembers ns = All (λ p. p.1 < 2 ^ 16) (keys_of ns)

-- the numbers of an issue
abbrev pub in_issue : Cusip → Numbers → Numbers
in_issue c ns = filter (λ e. same_issue c e.0.0) ns

-- the numbers that an iterator has left, if there is one
abbrev pub shown : Option Numbers → Numbers
shown None = []
shown (Some ns) = ns

-- the notices of the numbers, one after another, have ended
abbrev pub ended_each : Numbers → List Noticed → List Noticed
ended_each [] xs = xs
ended_each (e ∷ ns) xs = ended_each ns (with_notice (brought_to Ended) e.1 xs)

-- the place of a notice
abbrev pub place_of : Noticed → Place
place_of x = (x.given.issue, x.given.member)

-- the numbers lead to notices of their places, and to each live one; no notice was given before an earlier one; and a number
-- has 32 bits
pub record Leads (ns : Numbers) (xs : List Noticed) : Type 0 where
  pub there : (p : Place) (k : ℕ) → number_at ns p ≡ Some k → (0 < k) × IsSomeAnd (slice_get xs (k - 1)) (λ x. place_of x ≡ p)
  pub live : (i : ℕ) (x : Noticed) → slice_get xs i ≡ Some x → is_live x.stage ≡ true → number_at ns (place_of x) ≡ Some (suc i)
  pub days : IsNonDecreasingBy (λ x. x.given.day) xs
  pub count : length xs < 2 ^ 32
