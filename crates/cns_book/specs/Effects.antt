-- Where entries are booked, and what splits and exchanges are checked for.
use Rattle.std.specs.Prelude.{◌≡◌, ◌≤◌, true, false, ◌*◌, Bool, not, ◌&&◌, ◌||◌, List, [], ◌∷◌, map, Option, None, Some, ℤ, pos, unsigned_abs}
use Rattle.std.specs.Ordering.{int_eq}
use Rattle.cns_book.specs.Common.{AllByRecursion, Day, Journal, Rule, booking_limit, corporation_limit, entry_key, history_limit, is_listed, is_retired, pending, same_issue, Activity, Entry, Key, Rows, has_row, holding_at}
use Rattle.cns_terms.specs.declared.action.Exchange.{Exchange}
use Rattle.cns_terms.specs.declared.refusal.Refusal.TheVariants.{NoSuchIssue, Retired, SameIssue}
use Rattle.cns_actions.specs.declared.action.Action.{Action}
use Rattle.cns_actions.specs.Booked.{waits_for}

-- where entries are booked
abbrev pub places_of : List Entry → List Key
places_of es = map entry_key es

-- each of their places has a row
abbrev pub AreThere : Rows → List Entry → Type 0
AreThere rows es = AllByRecursion (λ e. has_row rows (entry_key e) ≡ true) es

-- whether a position has its row: one of no shares may be without
abbrev pub stands : Option ℤ → Bool
stands None = false
stands (Some q) = not (int_eq q (pos 0))

-- no position is beyond its limit, and no cents beyond what all activities can book
pub record AreWithin (rows : Rows) : Type 0 where
  pub shares : (k : Key) → unsigned_abs (holding_at rows k).now ≤ corporation_limit
  pub cents : (k : Key) → unsigned_abs (holding_at rows k).contract ≤ booking_limit * history_limit

-- the activity that a split or an exchange is
abbrev pub activity_of : Action → Activity
activity_of (Action.Split s) = Activity.Split s
activity_of (Action.Exchange x) = Activity.Exchange x

-- whether trades that wait hold it up: an issue with such trades is not exchanged
abbrev pub is_held_up : Day → Journal → Action → Bool
is_held_up opening J x = waits_for x (pending opening J)

-- the rules of an exchange, its size and the trades that wait apart
abbrev pub exchange_rules : Journal → Exchange → List Rule
exchange_rules J x =
    (NoSuchIssue, not (is_listed J x.old && is_listed J x.successor))
    ∷ (Retired, is_retired J x.old || is_retired J x.successor)
    ∷ (SameIssue, same_issue x.old x.successor) ∷ []
