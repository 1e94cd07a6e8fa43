-- What is refused, and why.
use Rattle.std.specs.Prelude.{ℕ, ◌+◌, is_none, is_some, ℤ, pos, ◌+ℤ◌, neg_ℤ, int_lt, int_le, Bool, not, ◌&&◌, ◌||◌, ◌==◌, nat_lt, List, [], ◌∷◌, Option, option_map, find}
use Rattle.cns_terms.specs.Types.{list_any, option_map_or, day_number, Account, Cusip, Day, Activity, Command, Entry, Pend, Refusal}
use Rattle.cns_terms.specs.declared.refusal.Refusal.TheVariants.{MemberExists, NoSuchMember, IssueExists, NoSuchIssue, Retired, SameParty, SameIssue, WrongDay, SeenReference, ExceedsPosition, NotOnHand, NotLong, AlreadyNoticed, NoSuchNotice, NotLive, TooEarly, NotLiable, TooLarge, NoSuchDay, PendingTrades}
use Rattle.cns_terms.specs.Sums.{long, same_issue, short, total}
use Rattle.cns_terms.specs.Postings.{Journal}
use Rattle.cns_terms.specs.Days.{closed_on, date, day, is_not_after}
use Rattle.cns_terms.specs.Positions.{position, shares_for}
use Rattle.cns_terms.specs.Listings.{is_member, is_account, is_listed, is_retired, is_seen}
use Rattle.cns_terms.specs.Entries.{corporation, entries, posting, trade_entries}
use Rattle.cns_terms.specs.Fills.{room}
use Rattle.cns_terms.specs.Limits.{position_limit}
use Rattle.cns_terms.specs.Pending.{bought_in, pend_of, pending, sold_in, waits_in}
use Rattle.cns_terms.specs.Notices.{is_live, is_so, live_notice, notice_at, remaining, stage}

-- a refusal, and whether its condition holds
abbrev pub Rule : Type 0
Rule = Refusal × Bool

-- whether a member is beyond its limit on one side or the other: long with the shares that it is to get by trades that wait,
-- or short with those that it is to give
abbrev pub is_beyond : ℤ → ℕ → ℕ → Bool
is_beyond q bought sold = nat_lt position_limit (long q + bought) || nat_lt position_limit (short q + sold)

-- whether entries take a member beyond its limit at a place, by the positions before them and the trades that wait then
abbrev pub is_too_large_at : (Account → Cusip → ℤ) → List Pend → List Entry → Entry → Bool
is_too_large_at before ps es e =
    nat_lt corporation e.account
    && is_beyond (total (shares_for e.account e.issue) es +ℤ before e.account e.issue) (bought_in ps e.account e.issue) (sold_in ps e.account e.issue)

-- whether they do so anywhere that they book
abbrev pub are_too_large : (Account → Cusip → ℤ) → List Pend → List Entry → Bool
are_too_large before ps es = list_any (is_too_large_at before ps es) es

-- where an activity may take a member beyond its limit: a trade also where it books later
abbrev pub places : Day → Journal → Activity → List Entry
places opening J (Activity.Trade t) = trade_entries (pend_of t)
places opening J x = entries opening J x

-- whether the whole activity does so
abbrev pub is_too_large : Day → Journal → Activity → Bool
is_too_large opening J x =
    list_any (is_too_large_at (position J) (pending opening (posting opening J x ∷ J)) (entries opening J x)) (places opening J x)

-- whether a position is above 0 and less than the shares
abbrev pub is_exceeded : ℤ → ℕ → Bool
is_exceeded q shares = int_lt (pos 0) q && int_lt q (pos shares)

-- whether the first day is before the second, by their numbers
abbrev pub is_past : Day → Day → Bool
is_past d today = not (is_not_after today d)

-- how many calendar days after today a trade may settle
abbrev pub days_ahead : ℕ
days_ahead = 5

-- whether a day is later than that
abbrev pub is_too_far : Day → Day → Bool
is_too_far d today = int_lt (day_number today +ℤ pos days_ahead) (day_number d)

-- the rules of an activity, by the refusal's number
abbrev pub rules : Day → Journal → Activity → List Rule
rules opening J (Activity.Member m) = (MemberExists, is_account J m) ∷ []
rules opening J (Activity.Issue l) = (IssueExists, is_listed J l.issue) ∷ []
rules opening J (Activity.Trade t) =
    (NoSuchMember, not (is_member J t.buyer && is_member J t.seller))
    ∷ (NoSuchIssue, not (is_listed J t.issue))
    ∷ (Retired, is_retired J t.issue)
    ∷ (SameParty, t.buyer == t.seller)
    ∷ (WrongDay, is_past t.date (date opening J) || is_too_far t.date (date opening J))
    ∷ (SeenReference, is_seen J t.reference)
    ∷ (TooLarge, is_too_large opening J (Activity.Trade t)) ∷ []
rules opening J (Activity.Price l) = (NoSuchIssue, not (is_listed J l.issue)) ∷ (Retired, is_retired J l.issue) ∷ []
rules opening J (Activity.Deliver m) =
    (NoSuchMember, not (is_member J m.member))
    ∷ (NoSuchIssue, not (is_listed J m.issue))
    ∷ (Retired, is_retired J m.issue)
    ∷ (ExceedsPosition, nat_lt (short (position J m.member m.issue)) m.shares) ∷ []
rules opening J (Activity.Receive m) =
    (NoSuchMember, not (is_member J m.member))
    ∷ (NoSuchIssue, not (is_listed J m.issue))
    ∷ (Retired, is_retired J m.issue)
    ∷ (ExceedsPosition, is_exceeded (position J m.member m.issue) m.shares)
    ∷ (NotOnHand, int_lt (neg_ℤ (pos m.shares)) (position J corporation m.issue))
    ∷ (NotLong, int_le (position J m.member m.issue) (pos 0)) ∷ []
rules opening J (Activity.Dividend d) =
    (NoSuchIssue, not (is_listed J d.issue))
    ∷ (Retired, is_retired J d.issue)
    ∷ (WrongDay, is_past d.recorded (date opening J) || is_not_after d.payable d.recorded) ∷ []
rules opening J (Activity.Split s) =
    (NoSuchIssue, not (is_listed J s.issue))
    ∷ (Retired, is_retired J s.issue)
    ∷ (TooLarge, is_too_large opening J (Activity.Split s)) ∷ []
rules opening J (Activity.Exchange x) =
    (NoSuchIssue, not (is_listed J x.old && is_listed J x.successor))
    ∷ (Retired, is_retired J x.old || is_retired J x.successor)
    ∷ (SameIssue, same_issue x.old x.successor)
    ∷ (TooLarge, is_too_large opening J (Activity.Exchange x))
    ∷ (PendingTrades, waits_in (pending opening J) x.old) ∷ []
rules opening J (Activity.Notice m) =
    (NoSuchMember, not (is_member J m.member))
    ∷ (NoSuchIssue, not (is_listed J m.issue))
    ∷ (Retired, is_retired J m.issue)
    ∷ (ExceedsPosition, is_exceeded (position J m.member m.issue) m.shares)
    ∷ (NotLong, int_le (position J m.member m.issue) (pos 0))
    ∷ (let live = live_notice J m.member m.issue in (AlreadyNoticed (option_map_or (λ n. n.number) live 0), is_some live)) ∷ []
rules opening J (Activity.Withdraw k) =
    (NoSuchNotice, is_none (notice_at J k))
    ∷ (NotLive, is_so (λ n. not (is_live (stage J n))) (notice_at J k)) ∷ []
rules opening J (Activity.Execute x) =
    (ExceedsPosition, is_so (λ n. is_live (stage J n) && nat_lt (remaining J n) x.shares) (notice_at J x.notice))
    ∷ (NoSuchNotice, is_none (notice_at J x.notice))
    ∷ (NotLive, is_so (λ n. not (is_live (stage J n))) (notice_at J x.notice))
    ∷ (TooEarly, is_so (λ n. nat_lt (day J) (n.given.day + 2)) (notice_at J x.notice))
    ∷ (NotLiable (option_map_or (room J) (notice_at J x.notice) 0), is_so (λ n. nat_lt (room J n) x.shares) (notice_at J x.notice)) ∷ []
rules opening J (Activity.Close d) = (WrongDay, is_not_after d (date opening J)) ∷ []

-- the rules of a command
abbrev pub rules_of : Day → Journal → Command → List Rule
rules_of opening J (Command.Activity x) = rules opening J x
rules_of opening J (Command.Position k) =
    (NoSuchMember, not (is_account J k.account)) ∷ (NoSuchIssue, not (is_listed J k.issue)) ∷ []
rules_of opening J (Command.Statement a d) =
    (NoSuchMember, not (is_account J a)) ∷ (NoSuchDay, is_none (closed_on opening J d)) ∷ []

-- the first refusal of a list of rules whose condition holds
abbrev pub first_refusal : List Rule → Option Refusal
first_refusal rs = option_map (λ r. r.0) (find (λ r. r.1) rs)

-- the refusal of least number whose condition holds
abbrev pub refusal : Day → Journal → Command → Option Refusal
refusal opening J cmd = first_refusal (rules_of opening J cmd)
