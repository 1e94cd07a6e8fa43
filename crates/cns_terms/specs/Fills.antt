-- What an execution gives each liable member, and what it pays.
use Rattle.std.specs.Prelude.{ℕ, ◌+◌, ◌-◌, ◌*◌, ◌/◌, min, Bool, false, ◌&&◌, ◌==◌, nat_lt, List, [], ◌∷◌, filter, length, map, sum_by, take, if◌then◌else◌}
use Rattle.cns_terms.specs.Types.{enumerate_from, option_map_or, Member, Cusip, Execution, Fill, Liable, Activity, Entry}
use Rattle.cns_terms.specs.Sums.{long, same_issue, short}
use Rattle.cns_terms.specs.Postings.{Journal}
use Rattle.cns_terms.specs.Days.{at_close, day}
use Rattle.cns_terms.specs.Positions.{position, shares_for}
use Rattle.cns_terms.specs.Listings.{issues}
use Rattle.cns_terms.specs.Notices.{Notice, executed, notice_at}
use Rattle.cns_terms.specs.Batches.{Liables, batch_at}

-- ---- how shares fall to a batch

-- what a member can be given: no more than is left of its liability, nor than it is short now
abbrev pub capacity : (Member → ℕ) → Liable → ℕ
capacity short l = min l.left (short l.member)

-- what a batch can be given
abbrev pub room_of : (Member → ℕ) → List Liable → ℕ
room_of short ls = sum_by (capacity short) ls

-- what falls to a member whose stretch of the shares is from `from` to `to`: those below n, and their part of the money m
abbrev pub stretch : ℕ → ℕ → ℕ → ℕ → Member → Fill
stretch n m from to a =
    let end = min n to in
    record { member = a; shares = end - from; cents = if nat_lt from end then (m * end) / n - (m * from) / n else 0 }

-- where the stretch of the member at a place begins: after the capacities of those before it in the order of filling
abbrev pub start : (Liable → ℕ) → List Liable → ℕ → ℕ
start capacity ls i = sum_by capacity (take i ls)

-- what falls to the member at a place, whose stretch is as long as its capacity
abbrev pub stretch_at : (Liable → ℕ) → ℕ → ℕ → List Liable → ℕ × Liable → Fill
stretch_at capacity n m ls p = stretch n m (start capacity ls p.0) (start capacity ls p.0 + capacity p.1) p.1.member

-- the fills of an execution of n shares for the money m: what falls to each member, where that is any of the shares
abbrev pub fills_of : (Member → ℕ) → ℕ → ℕ → List Liable → List Fill
fills_of short n m ls = filter (λ f. nat_lt 0 f.shares) (map (stretch_at (capacity short) n m ls) (enumerate_from 0 ls))

-- the shares that fills give a member
abbrev pub given_to : Member → List Fill → ℕ
given_to a fs = sum_by (λ f. if f.member == a then f.shares else 0) fs

-- a liability after fills
abbrev pub charged : List Fill → Liable → Liable
charged fs l = record { member = l.member; age = l.age; closing = l.closing; left = l.left - given_to l.member fs }

-- ---- in the journal

-- whether an activity executes a notice that was given in the issue on the day
abbrev pub executes : Journal → ℕ → Cusip → Activity → Bool
executes J n c x =
    option_map_or (λ e. option_map_or (λ k. (k.given.day == n) && same_issue k.given.issue c) (notice_at J e.notice) false) (executed x) false

-- the shares that entries bring an account in an issue
abbrev pub brought : Member → Cusip → List Entry → ℕ
brought a c es = sum_by (λ e. long (shares_for a c e)) es

-- the shares that executions of such notices gave a member
abbrev pub filled : Journal → ℕ → Cusip → Member → ℕ
filled [] n c a = 0
filled (p ∷ J) n c a = (if executes J n c p.activity then brought a c p.entries else 0) + filled J n c a

-- a liability, with what executions left of it
abbrev pub left_of : Journal → ℕ → Cusip → Liable → Liable
left_of J n c l = record { member = l.member; age = l.age; closing = l.closing; left = l.closing - filled J n c l.member }

-- the batch that a close chose in the issue, with what is left of each liability now
abbrev pub batch_since : Journal → Journal → Cusip → List Liable
batch_since J K c = map (left_of J (day K) c) (batch_at K c)

-- the batch of a day in an issue
abbrev pub batch : Journal → ℕ → Cusip → List Liable
batch J n c = batch_since J (at_close J n) c

-- what the batch of a notice can be given now
abbrev pub room : Journal → Notice → ℕ
room J k = room_of (λ a. short (position J a k.given.issue)) (batch J k.given.day k.given.issue)

-- the fills of an execution of a notice
abbrev pub fills : Journal → Execution → Notice → List Fill
fills J x k = fills_of (λ a. short (position J a k.given.issue)) x.shares x.money (batch J k.given.day k.given.issue)

-- the batches that a close chose, by issue: those in which somebody is
abbrev pub batches_since : Journal → Journal → List Liables
batches_since J K = filter (λ b. nat_lt 0 (length b.members)) (map (λ c. record { issue = c; members = batch_since J K c }) (issues K))

-- the batches of a day
abbrev pub batches : Journal → ℕ → List Liables
batches J n = batches_since J (at_close J n)
