-- What an execution is booked by.
use Rattle.std.specs.Prelude.{◌≡◌, ℕ, ◌-◌, ◌*◌, ◌^◌, ◌≤◌, min, pos, int_lt, true, false, ◌==◌, List, [], ◌∷◌, length, map, None, Some, option_map, unsigned_abs}
use Rattle.cns_book.specs.Common.{AllByRecursion, Cusip, IsInRange, Journal, Member, Notice, booking_limit, corporation_limit, fill_entry, fills, history_limit, journal, money_limit, notice_at, option_map_or, originator_entry, refusal, shares_limit, short, Activity, Entry, Holding, Key, Rows, holding_at, Command, kept_at}
use Rattle.cns_terms.specs.declared.buy_in.Execution.{Execution}
use Rattle.cns_terms.specs.declared.buy_in.Fill.{Fill}
use Rattle.cns_terms.specs.declared.buy_in.Given.{Given}
use Rattle.cns_book.specs.Contents.{Contents}
use Rattle.cns_book.specs.Follows.{Follows}

-- how much a member is short in an issue, in 63 bits: no position that is reached has more
abbrev pub capped_short : Rows → Cusip → Member → ℕ
capped_short rows c a = min (short (holding_at rows (record { account = a; issue = c })).now) (2 ^ 63 - 1)

-- the notice that an execution names
abbrev pub notice_of : Execution → Given → Notice
notice_of x g = record { number = x.notice; given = g }

-- what is booked for the member that gave the notice, and for those that are filled
abbrev pub entries_by : Execution → Given → List Fill → List Entry
entries_by x g fs = originator_entry x (notice_of x g) ∷ map (fill_entry (notice_of x g)) fs

-- no member is filled twice
abbrev pub AreApart : List Fill → Type 0
AreApart [] = Unit {0}
AreApart (f ∷ fs) = AllByRecursion (λ h. (h.member == f.member) ≡ false) fs × AreApart fs

-- where an execution is booked for the member that gave the notice, and for one that is filled
abbrev pub originator_at : Given → Key
originator_at g = record { account = g.member; issue = g.issue }

abbrev pub filled_at : Given → Fill → Key
filled_at g f = record { account = f.member; issue = g.issue }

-- what stands at a key is within its limits
pub record IsWithin (h : Holding) : Type 0 where
  pub shares : unsigned_abs h.now ≤ corporation_limit
  pub cents : unsigned_abs h.contract ≤ booking_limit * history_limit

-- shares can be bought in from what stands at a key: it is long, so its row is there
pub record CanBeBought (h : Holding) : Type 0 where
  pub within : IsWithin h
  pub long : int_lt (pos 0) h.now ≡ true

-- a member can be filled by what stands at its key: it is short, so its row is there
pub record CanBeFilled (h : Holding) (f : Fill) : Type 0 where
  pub within : IsWithin h
  pub short : int_lt h.now (pos 0) ≡ true
  pub shares : f.shares ≤ shares_limit
  pub cents : f.cents ≤ money_limit

-- the member that gave the notice is long, and those that are filled are short and distinct
pub record CanBeExecuted (rows : Rows) (g : Given) (fs : List Fill) : Type 0 where
  pub bought : CanBeBought (holding_at rows (originator_at g))
  pub filled : AllByRecursion (λ f. CanBeFilled (holding_at rows (filled_at g f)) f) fs
  pub apart : AreApart fs

-- the fills of an execution by the definitions, of the notice that it names
abbrev pub fills_by : Journal → Execution → List Fill
fills_by J x = option_map_or (fills J x) (notice_at J x.notice) []

-- an execution is accepted, and names a notice as it was given
pub record IsAccepted (s : Contents) (x : Execution) (g : Given) : Type 0 where
  pub range : IsInRange (Activity.Execute x)
  pub named : (1 ≤ x.notice) × (x.notice ≤ length s.notices)
  pub there : Some g ≡ option_map (λ y. y.given) (kept_at s.notices x.notice)
  pub accepted : (L : List Activity) → Follows L s → refusal s.opening (journal s.opening L) (Command.Activity (Activity.Execute x)) ≡ None
