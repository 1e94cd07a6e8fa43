-- Notices of intention to buy in, and what remains of them.
use Rattle.std.specs.Prelude.{ℕ, ◌+◌, ◌-◌, min, ℤ, Bool, true, false, ◌&&◌, ◌==◌, nat_le, List, [], ◌∷◌, ◌++◌, length, Option, Some, None, find, if◌then◌else◌}
use Rattle.cns_terms.specs.Types.{option_map_or, Cusip, Member, Execution, Activity, Movement}
use Rattle.cns_terms.specs.declared.buy_in.Given.{Given}
use Rattle.cns_terms.specs.declared.buy_in.Stage.{Stage}
use Rattle.cns_terms.specs.declared.buy_in.Stage.TheVariants.{Live, Withdrawn, Ended, Expired}
use Rattle.cns_terms.specs.Sums.{long, same_issue}
use Rattle.cns_terms.specs.Postings.{Journal}
use Rattle.cns_terms.specs.Days.{day}
use Rattle.cns_terms.specs.Positions.{position}

-- ---- what activities do

-- what an activity notices: the member, the issue and the shares
abbrev pub noticed : Activity → Option Movement
noticed (Activity.Notice m) = Some m
noticed _ = None

-- the movement by which a member receives
abbrev pub received : Activity → Option Movement
received (Activity.Receive m) = Some m
received _ = None

-- the execution that an activity is
abbrev pub executed : Activity → Option Execution
executed (Activity.Execute x) = Some x
executed _ = None

-- ---- the notices

-- a notice: its number, and how it was given
pub record Notice : Type 0 where
  pub number : ℕ
  pub given : Given

-- a notice that is given on a day
abbrev pub notice : ℕ → ℕ → Movement → Notice
notice k n m = record { number = k; given = record { member = m.member; issue = m.issue; shares = m.shares; day = n } }

-- the notices, numbered 1, 2, 3 by acceptance
abbrev pub notices : Journal → List Notice
notices [] = []
notices (p ∷ J) = option_map_or (λ m. notices J ++ (notice (length (notices J) + 1) (day J) m ∷ [])) (noticed p.activity) (notices J)

-- the notice with the number, if there is one
abbrev pub notice_at : Journal → ℕ → Option Notice
notice_at J k = find (λ n. n.number == k) (notices J)

-- whether the notice stands in the journal
abbrev pub is_given : Journal → Notice → Bool
is_given J n = nat_le n.number (length (notices J))

-- whether something is so of a notice; it is not of one that is not there
abbrev pub is_so : (Notice → Bool) → Option Notice → Bool
is_so holds n = option_map_or holds n false

-- ---- how a notice stands

-- whether a notice stands
abbrev pub is_live : Stage → Bool
is_live Live = true
is_live _ = false

-- what an activity makes of a live notice; the number is that of the day on which it is accepted
abbrev pub stage_by : Notice → ℕ → Activity → Stage
stage_by n today (Activity.Split s) = if same_issue s.issue n.given.issue then Ended else Live
stage_by n today (Activity.Exchange x) = if same_issue x.old n.given.issue then Ended else Live
stage_by n today (Activity.Withdraw k) = if k == n.number then Withdrawn else Live
stage_by n today (Activity.Close d) = if today == n.given.day + 2 then Expired else Live
stage_by n today _ = Live

-- the stage that was reached first
abbrev pub first_reached : Stage → Stage → Stage
first_reached Live s = s
first_reached Withdrawn s = Withdrawn
first_reached Ended s = Ended
first_reached Expired s = Expired

-- how a notice stands: by the first activity after it that withdraws it, ends it, or closes the second day after its own
abbrev pub stage : Journal → Notice → Stage
stage [] n = Live
stage (p ∷ J) n = first_reached (stage J n) (if is_given J n then stage_by n (day J) p.activity else Live)

-- the live notice of a member in an issue, if there is one
abbrev pub live_notice : Journal → Member → Cusip → Option Notice
live_notice J a c = find (λ n. is_live (stage J n) && (n.given.member == a) && same_issue n.given.issue c) (notices J)

-- ---- what remains of a notice

-- the shares of its issue that its member receives by an activity
abbrev pub receipt : Notice → Activity → ℕ
receipt n x = option_map_or (λ m. if (m.member == n.given.member) && same_issue m.issue n.given.issue then m.shares else 0) (received x) 0

-- the shares of it that an activity executes
abbrev pub execution : Notice → Activity → ℕ
execution n x = option_map_or (λ e. if e.notice == n.number then e.shares else 0) (executed x) 0

-- what its member received since it was given
abbrev pub shares_received : Journal → Notice → ℕ
shares_received [] n = 0
shares_received (p ∷ J) n = (if is_given J n then receipt n p.activity else 0) + shares_received J n

-- what was executed of it
abbrev pub shares_executed : Journal → Notice → ℕ
shares_executed [] n = 0
shares_executed (p ∷ J) n = (if is_given J n then execution n p.activity else 0) + shares_executed J n

-- what remains of a notice of so many shares, by its stage, what was received and executed since, and its member's position:
-- nothing unless the notice is live, and never more than the member is long
abbrev pub what_remains : Stage → ℕ → ℕ → ℕ → ℤ → ℕ
what_remains stage shares received executed q = if is_live stage then min (shares - received - executed) (long q) else 0

-- what remains of a notice now
abbrev pub remaining : Journal → Notice → ℕ
remaining J n = what_remains (stage J n) n.given.shares (shares_received J n) (shares_executed J n) (position J n.given.member n.given.issue)
