-- What entries make of positions.
use Rattle.std.specs.Prelude.{◌≡◌, ◌≤◌, ℕ, ℤ, Bool, false, List, unsigned_abs, if◌then◌else◌}
use Rattle.cns_actions.specs.Common.{Account, Cusip, Member, amount_limit, corporation, corporation_limit, oldest_of, position_limit, same_issue, waits_in, Entry, Holding, Key, Pend, Rows, books, holding_at, with_age, Action}
use Rattle.cns_terms.specs.Actions.{AreHolders}
use Rattle.cns_terms.specs.Entries.{exchange_entries, split_entries}
use Rattle.cns_terms.specs.Refusals.{are_too_large}

-- an account's position in an issue
abbrev pub position_at : Rows → Account → Cusip → ℤ
position_at rows a c = (holding_at rows (record { account = a; issue = c })).now

-- the positions in an issue, by account
abbrev pub positions_in : Rows → Cusip → Account → ℤ
positions_in rows c a = position_at rows a c

-- the issue whose positions count
abbrev pub issue_of : Action → Cusip
issue_of (Action.Split s) = s.issue
issue_of (Action.Exchange x) = x.old

-- the entries of a split or an exchange, by the positions in that issue
abbrev pub entries_of : Action → (Account → ℤ) → List Member → List Entry
entries_of (Action.Split s) q ms = split_entries s q ms
entries_of (Action.Exchange x) q ms = exchange_entries x q ms

-- an exchange is for another issue
abbrev pub IsForAnother : Action → Type 0
IsForAnother (Action.Split s) = Unit {0}
IsForAnother (Action.Exchange x) = same_issue x.old x.successor ≡ false

-- whether it has to wait for trades: none may wait in an issue that is exchanged
abbrev pub waits_for : Action → List Pend → Bool
waits_for (Action.Split s) ps = false
waits_for (Action.Exchange x) ps = waits_in ps x.old

-- the age that is brought to a key: in an exchange the successor gets the oldest of the account's short in the old issue
abbrev pub age_brought : Rows → Action → Key → ℕ
age_brought rows (Action.Split s) k = 0
age_brought rows (Action.Exchange x) k =
    if same_issue x.successor k.issue then oldest_of (holding_at rows (record { account = k.account; issue = x.old })) else 0

-- the members that hold the issue whose positions count
abbrev pub AreItsHolders : Rows → Action → List Member → Type 0
AreItsHolders rows act ms = AreHolders (positions_in rows (issue_of act)) ms

-- whether what it books for them is beyond a limit
abbrev pub is_too_large : Rows → Action → List Pend → List Member → Bool
is_too_large rows act ps ms = are_too_large (position_at rows) ps (entries_of act (positions_in rows (issue_of act)) ms)

-- what stands at a key after it
abbrev pub after_action : Rows → Action → List Member → Key → Holding
after_action rows act ms k =
    with_age (age_brought rows act k) (books (entries_of act (positions_in rows (issue_of act)) ms) k (holding_at rows k))

-- positions on which a split or an exchange can be booked: none is beyond its limit, and no cents are
pub record CanBeBooked (rows : Rows) : Type 0 where
  pub members : (a : Account) (c : Cusip) → 1 ≤ a → unsigned_abs (position_at rows a c) ≤ position_limit
  pub corporation : (c : Cusip) → unsigned_abs (position_at rows corporation c) ≤ corporation_limit
  pub cents : (k : Key) → unsigned_abs (holding_at rows k).contract ≤ amount_limit
