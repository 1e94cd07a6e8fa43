-- What splits and exchanges make of positions.
use Rattle.std.specs.Prelude.{◌≡◌, ◌⊎◌, ◌≤◌, ◌*◌, ◌^◌, ℕ, ℤ, pos, ◌+ℤ◌, ◌-ℤ◌, neg_ℤ, Bool, not, ◌&&◌, ◌||◌, ◌==◌, nat_lt, List, [], ◌∷◌, ◌++◌, map, filter, unsigned_abs, None, if◌then◌else◌, flat_map}
use Rattle.cns_actions.specs.Common.{Account, AllByRecursion, Cusip, bought_in, converted, corporation, entry, in_exchange, in_lieu, is_beyond, is_lt, nat_cmp, oldest_of, same_issue, slice_cmp, sold_in, total, Holding, Key, Pend, Rows, held_above, Action, Booking, Holder}
use Rattle.std.specs.Ordering.{int_eq}
use Rattle.cns_actions.specs.declared.change.Change.{Change}
use Rattle.cns_actions.specs.Booked.{issue_of, position_at}
use Rattle.cns_actions.specs.Bookings.{booking}

-- whether a position stands there
abbrev pub has_position : Holding → Bool
has_position h = not (int_eq h.now (pos 0))

-- or the age of a short, be it closed since
abbrev pub has_position_or_age : Holding → Bool
has_position_or_age h = has_position h || not (oldest_of h == 0)

-- the member, with its position and its age
abbrev pub holder_of : Key × Holding → Holder
holder_of r = record { account = r.0.account; shares = r.1.now; oldest = oldest_of r.1 }

-- the members with such holdings in an issue, in the order of rows
abbrev pub holders_in : (Holding → Bool) → Cusip → Rows → List Holder
holders_in kind c rows = map holder_of (filter (λ r. nat_lt corporation r.0.account && same_issue r.0.issue c && kind r.1) rows)

-- those that a split or an exchange is booked for
abbrev pub holders_of : Action → Rows → List Holder
holders_of x rows = holders_in has_position (issue_of x) (held_above rows None)

-- and those with an age, which an exchange brings into the successor
abbrev pub all_holders_of : Action → Rows → List Holder
all_holders_of x rows = holders_in has_position_or_age (issue_of x) (held_above rows None)

-- those of holders with a position
abbrev pub with_position : List Holder → List Holder
with_position hs = filter (λ h. not (int_eq h.shares (pos 0))) hs

-- what a position becomes
abbrev pub change_of : Action → ℤ → Change
change_of (Action.Split s) q = record { before = q; after = converted s.ratio q; cents = in_lieu s.ratio s.lieu q }
change_of (Action.Exchange x) q = record { before = q; after = converted x.ratio q; cents = in_exchange x.ratio x.lieu x.cash q }

-- what the positions of members become together
abbrev pub sum_of : Action → List Holder → Change
sum_of x hs = record {
  before = total (λ h. (change_of x h.shares).before) hs;
  after = total (λ h. (change_of x h.shares).after) hs;
  cents = total (λ h. (change_of x h.shares).cents) hs;
}

abbrev pub opposite : Change → Change
opposite c = record { before = neg_ℤ c.before; after = neg_ℤ c.after; cents = neg_ℤ c.cents }

-- no more than so many members' changes together
pub record IsFew (n : ℕ) (c : Change) : Type 0 where
  pub before : unsigned_abs c.before ≤ 10 ^ 14 * n
  pub after : unsigned_abs c.after ≤ 10 ^ 14 * n
  pub cents : unsigned_abs c.cents ≤ 2 * 10 ^ 19 * n

-- two bookings of an account, in the order of their issues
abbrev pub in_issue_order : Booking → Booking → List Booking
in_issue_order b d = if is_lt (slice_cmp nat_cmp b.entry.issue d.entry.issue) then b ∷ d ∷ [] else d ∷ b ∷ []

-- what a change books for an account, with the age that an exchange brings
abbrev pub bookings_for : Action → Account → Change → ℕ → List Booking
bookings_for (Action.Split s) a c n = booking (entry a s.issue (c.after -ℤ c.before) c.cents) 0 ∷ []
bookings_for (Action.Exchange x) a c n =
    in_issue_order (booking (entry a x.old (neg_ℤ c.before) (pos 0)) 0) (booking (entry a x.successor c.after c.cents) n)

-- what is booked for an account without a position: the age alone
abbrev pub age_for : Action → Account → ℕ → List Booking
age_for (Action.Split s) a n = []
age_for (Action.Exchange x) a n = booking (entry a x.successor (pos 0) (pos 0)) n ∷ []

-- what is booked for a member
abbrev pub member_bookings : Action → Holder → List Booking
member_bookings x h =
    if int_eq h.shares (pos 0) then age_for x h.account h.oldest else bookings_for x h.account (change_of x h.shares) h.oldest

-- what is booked for members, and for the corporation before them, by what their positions become together and its age
abbrev pub all_bookings : Action → Change → ℕ → List Holder → List Booking
all_bookings x sum n hs = bookings_for x corporation (opposite sum) n ++ flat_map (member_bookings x) hs

-- the issue of the new shares
abbrev pub new_issue : Action → Cusip
new_issue (Action.Split s) = s.issue
new_issue (Action.Exchange x) = x.successor

-- each booking is in the issue that is split or exchanged, or in that of the new shares
abbrev pub AreInIssues : Action → List Booking → Type 0
AreInIssues x bs = AllByRecursion (λ b. (b.entry.issue ≡ issue_of x) ⊎ (b.entry.issue ≡ new_issue x)) bs

-- a member's position after it, in the issue of the new shares
abbrev pub position_after : Rows → Action → Holder → ℤ
position_after rows (Action.Split s) h = converted s.ratio h.shares
position_after rows (Action.Exchange x) h = converted x.ratio h.shares +ℤ position_at rows h.account x.successor

-- whether it is beyond the member's limits, with the trades in that issue that wait
abbrev pub takes_beyond : Rows → List Pend → Action → Holder → Bool
takes_beyond rows ps x h =
    is_beyond (position_after rows x h) (bought_in ps h.account (new_issue x)) (sold_in ps h.account (new_issue x))
