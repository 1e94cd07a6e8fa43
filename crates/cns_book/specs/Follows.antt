-- What ties the parts of a book to the accepted activities, by what changes together.
use Rattle.std.specs.Prelude.{◌≡◌, ℕ, ℤ, ◌+◌, ◌≤◌, ◌<◌, Bool, true, false, List, map, length, reverse, Option, Some, None, Result, Ok, Err, if◌then◌else◌}
use Rattle.cns_book.specs.Common.{Cusip, Day, IsReached, Journal, Liables, Member, answer_to, batches_since, closes, closings, corporation, date, day_sheet, dividends, history_limit, holding, in_order, is_listed, is_member, is_retired, is_seen, journal, pays_before, pending, price, refusal, Activity, Command, NoMemory, Key, Refusal, Reply, holding_at, price_in, retired_in, is_used}
use Rattle.cns_terms.specs.declared.command.Movement.{Movement}
use Rattle.cns_terms.specs.declared.command.Trade.{Trade}
use Rattle.cns_terms.specs.Machine.{accepted_after}
use Rattle.cns_terms.specs.Positions.{position}
use Rattle.cns_notices.specs.Kept.{kept_notices}
use Rattle.cns_trades.specs.declared.facts.MoveFacts.{MoveFacts}
use Rattle.cns_trades.specs.declared.facts.TradeFacts.{TradeFacts}
use Rattle.cns_book.specs.Contents.{Contents}
use Rattle.cns_book.specs.Members.{has_member}

-- the open day's date, and how many days are closed
pub record FollowsClock (J : Journal) (s : Contents) : Type 0 where
  pub today : s.today ≡ date s.opening J
  pub closes : s.closes ≡ closes J

-- the members, and the listed issues with their prices
pub record FollowsListings (J : Journal) (s : Contents) : Type 0 where
  pub members : (m : ℕ) → has_member s.members m ≡ is_member J m
  pub prices : (c : Cusip) → price_in s.prices c ≡ (if is_listed J c then Some (price J c) else None)
  pub retired : (c : Cusip) → retired_in s.prices c ≡ is_retired J c

-- the references that accepted trades used
abbrev pub FollowsReferences : Journal → Contents → Type 0
FollowsReferences J s = (r : ℕ) → is_used s.trades.references r ≡ is_seen J r

-- the trades that wait, in the order in which they were taken
abbrev pub FollowsPending : Journal → Contents → Type 0
FollowsPending J s = s.trades.pending ≡ reverse (pending s.opening J)

-- the declared dividends, in the order in which they are paid
abbrev pub FollowsDividends : Journal → Contents → Type 0
FollowsDividends J s = s.dividends ≡ in_order pays_before (dividends J)

-- what stands at each key
abbrev pub FollowsRows : Journal → Contents → Type 0
FollowsRows J s = (k : Key) → holding_at s.rows k ≡ holding J k.account k.issue

-- the notices, with what became of each
abbrev pub FollowsNotices : Journal → Contents → Type 0
FollowsNotices J s = s.notices ≡ kept_notices J

-- the batches of the closed days, the first day's first
abbrev pub kept_batches : Journal → List (List Liables)
kept_batches J = map (batches_since J) (reverse (closings J))

-- with what is left of each liability now
abbrev pub FollowsBatches : Journal → Contents → Type 0
FollowsBatches J s = s.batches ≡ kept_batches J

-- commands reach the activities, and each part shows what the definitions say of them
pub record Follows (L : List Activity) (s : Contents) : Type 0 where
  pub reached : IsReached s.opening L
  pub clock : FollowsClock (journal s.opening L) s
  pub listings : FollowsListings (journal s.opening L) s
  pub references : FollowsReferences (journal s.opening L) s
  pub pending : FollowsPending (journal s.opening L) s
  pub dividends : FollowsDividends (journal s.opening L) s
  pub rows : FollowsRows (journal s.opening L) s
  pub sheets : s.sheets ≡ map (day_sheet s.opening) (closings (journal s.opening L))
  pub notices : FollowsNotices (journal s.opening L) s
  pub batches : FollowsBatches (journal s.opening L) s

-- the parts follow some activities, and there is room for one more
pub record HasRoom (s : Contents) : Type 0 where
  pub activities : List Activity
  pub follows : Follows activities s
  pub few : length activities + 1 < history_limit

-- a command gave the machine's reply and took the machine's step; memory is missed only by a command that is not
-- refused, and then nothing that is shown has changed
abbrev pub Steps : List Activity → Command → Result Reply NoMemory → Contents → Type 0
Steps L cmd (Ok r) s = (r ≡ answer_to s.opening L cmd) × Follows (accepted_after s.opening L cmd) s
Steps L cmd (Err e) s = (refusal s.opening (journal s.opening L) cmd ≡ None) × Follows L s

-- what is so over the journal of any activities that the parts follow
abbrev pub Shows : Contents → (Journal → Type 0) → Type 0
Shows s Q = (L : List Activity) → Follows L s → Q (journal s.opening L)

-- a refusal, or none, is the machine's for a command
abbrev pub Refuses : Contents → Command → Option Refusal → Type 0
Refuses s cmd r = Shows s (λ J. r ≡ refusal s.opening J cmd)

-- a command takes the machine's step from whatever activities the parts followed
abbrev pub Answers : Contents → Command → Result Reply NoMemory → Contents → Type 0
Answers old cmd r new = (L : List Activity) → Follows L old → Steps L cmd r new

-- whether a command may need more memory than its entry in the history does
abbrev pub may_grow : Command → Bool
may_grow (Command.Activity _) = true
may_grow _ = false

-- a member's position, where the account is a member's
abbrev pub member_position : Journal → Member → Cusip → Option ℤ
member_position J a c = if is_member J a then Some (position J a c) else None

-- what a trade is checked against, by the journal
pub record AreTradeFacts (opening : Day) (J : Journal) (t : Trade) (facts : TradeFacts) : Type 0 where
  pub buyer : facts.buyer ≡ member_position J t.buyer t.issue
  pub seller : facts.seller ≡ member_position J t.seller t.issue
  pub listed : facts.listed ≡ is_listed J t.issue
  pub retired : facts.retired ≡ is_retired J t.issue
  pub today : facts.today ≡ date opening J
  pub members : (1 ≤ t.buyer) × (1 ≤ t.seller)

-- what a movement is checked against, by the journal
pub record AreMoveFacts (J : Journal) (m : Movement) (facts : MoveFacts) : Type 0 where
  pub member : facts.member ≡ member_position J m.member m.issue
  pub corporation : facts.corporation ≡ position J corporation m.issue
  pub listed : facts.listed ≡ is_listed J m.issue
  pub retired : facts.retired ≡ is_retired J m.issue
  pub number : 1 ≤ m.member
