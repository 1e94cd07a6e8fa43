-- The numbers of refusals.
use Rattle.std.specs.Prelude.{ℕ}
use Rattle.cns_terms.specs.Types.{Refusal}
use Rattle.cns_terms.specs.declared.refusal.Refusal.TheVariants.{MemberExists, NoSuchMember, IssueExists, NoSuchIssue, Retired, SameParty, SameIssue, WrongDay, SeenReference, ExceedsPosition, NotOnHand, NotLong, AlreadyNoticed, NoSuchNotice, NotLive, TooEarly, NotLiable, TooLarge, NoSuchDay, PendingTrades}

-- the number by which a refusal is written, and by which the first of several is found
abbrev pub refusal_number : Refusal → ℕ
refusal_number MemberExists = 1
refusal_number NoSuchMember = 2
refusal_number IssueExists = 3
refusal_number NoSuchIssue = 4
refusal_number Retired = 5
refusal_number SameParty = 6
refusal_number SameIssue = 7
refusal_number WrongDay = 8
refusal_number SeenReference = 9
refusal_number ExceedsPosition = 10
refusal_number NotOnHand = 11
refusal_number NotLong = 12
refusal_number (AlreadyNoticed k) = 13
refusal_number NoSuchNotice = 14
refusal_number NotLive = 15
refusal_number TooEarly = 16
refusal_number (NotLiable room) = 17
refusal_number TooLarge = 18
refusal_number NoSuchDay = 19
refusal_number PendingTrades = 20
