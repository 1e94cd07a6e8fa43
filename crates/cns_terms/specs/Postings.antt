-- The journal: each accepted activity with the entries that it booked.
use Rattle.std.specs.Prelude.{List, map}
use Rattle.cns_terms.specs.Types.{Activity, Entry}

-- an accepted activity, with the entries that it booked
pub record Posting : Type 0 where
  pub activity : Activity
  pub entries : List Entry

-- the postings, the newest first: what stands before a posting is the rest of the list
abbrev pub Journal : Type 0
Journal = List Posting

-- the activities, the newest first
abbrev pub activities : Journal → List Activity
activities J = map (λ p. p.activity) J
