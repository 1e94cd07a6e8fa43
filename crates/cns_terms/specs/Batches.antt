-- Retransmittal: the members that are liable for the notices of a day.
use Rattle.std.specs.Prelude.{ℕ, Bool, ◌&&◌, ◌||◌, ◌==◌, nat_lt, List, ◌∷◌, filter, flat_map, map, sum_by, if◌then◌else◌}
use Rattle.cns_terms.specs.Types.{Member, Cusip, Liable}
use Rattle.cns_terms.specs.declared.buy_in.Short.{Short}
use Rattle.cns_terms.specs.Sums.{in_order, same_issue, short}
use Rattle.cns_terms.specs.Postings.{Journal}
use Rattle.cns_terms.specs.Days.{closings, day}
use Rattle.cns_terms.specs.Positions.{position}
use Rattle.cns_terms.specs.Ages.{closes_short}
use Rattle.cns_terms.specs.Listings.{issues, members}
use Rattle.cns_terms.specs.Notices.{notices, remaining}

-- ---- who is liable

-- the order of filling: the oldest short first, then by the member's number
abbrev pub fills_before : Short → Short → Bool
fills_before s t = nat_lt t.age s.age || ((s.age == t.age) && nat_lt s.member t.member)

-- a short's shares, if it is older than an age
abbrev pub if_older : ℕ → Short → ℕ
if_older age s = if nat_lt age s.age then s.shares else 0

-- whether the shorts that are older than a member's total less than what is called
abbrev pub is_called : List Short → ℕ → Short → Bool
is_called ss called s = nat_lt (sum_by (if_older s.age) ss) called

-- a member's liability, before any execution
abbrev pub liable_of : Short → Liable
liable_of s = record { member = s.member; age = s.age; closing = s.shares; left = s.shares }

-- the batch: whole groups of one age, the oldest first, until their shorts total what is called, in the order of filling
abbrev pub chosen : List Short → ℕ → List Liable
chosen ss called = map liable_of (filter (is_called ss called) (in_order fills_before ss))

-- a batch: an issue, and the members that are liable in it, in the order of filling
pub record Liables : Type 0 where
  pub issue : Cusip
  pub members : List Liable

-- ---- the batches of a day

-- what remains, at the close that found the journal so, of the notices that were given in the issue on its day
abbrev pub called : Journal → Cusip → ℕ
called K c = sum_by (remaining K) (filter (λ n. (n.given.day == day K) && same_issue n.given.issue c) (notices K))

-- a member's short at that close, and its age, which counts this close
abbrev pub short_of : Journal → Cusip → Member → Short
short_of K c a = record { member = a; shares = short (position K a c); age = closes_short (K ∷ closings K) a c }

-- the members that are short at that close
abbrev pub shorts : Journal → Cusip → List Short
shorts K c = filter (λ s. nat_lt 0 s.shares) (map (short_of K c) (members K))

-- the batch that the close chooses in the issue
abbrev pub batch_at : Journal → Cusip → List Liable
batch_at K c = chosen (shorts K c) (called K c)

-- the members that are liable by that close, by issue and then in the order of filling
abbrev pub liable_at : Journal → List Liable
liable_at K = flat_map (batch_at K) (issues K)
