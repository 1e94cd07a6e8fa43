-- The shorts from which a batch is chosen.
use Rattle.std.specs.Prelude.{ℕ, ◌≤◌, ◌==◌, List, [], ◌∷◌, filter, map, sum_by, ⊤, if◌then◌else◌}
use Rattle.cns_retransmit.specs.Common.{Member, is_called, liable_of, Liable, Short}

-- how many of the shorts are a member's
abbrev pub shorts_of : Member → List Short → ℕ
shorts_of a ss = sum_by (λ s. if s.member == a then 1 else 0) ss

-- none is older than an age
abbrev pub NoneOlder : ℕ → List Short → Type 0
NoneOlder age [] = ⊤
NoneOlder age (s ∷ ss) = (s.age ≤ age) × NoneOlder age ss

-- none is older than those before it
abbrev pub IsOldestFirst : List Short → Type 0
IsOldestFirst [] = ⊤
IsOldestFirst (s ∷ ss) = NoneOlder s.age ss × IsOldestFirst ss

-- those that are called, in the order in which they stand
abbrev pub chosen_of : List Short → ℕ → List Liable
chosen_of ss called = map liable_of (filter (is_called ss called) ss)
