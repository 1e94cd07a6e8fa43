-- The rules of trades and movements over plain facts, by the refusal's number.
use Rattle.std.specs.Prelude.{◌≤◌, ◌+◌, ℤ, pos, ◌+ℤ◌, neg_ℤ, int_lt, int_le, unsigned_abs, Bool, not, ◌&&◌, ◌||◌, ◌==◌, nat_lt, List, [], ◌∷◌, Option, Some, None, is_some, unwrap_or, Result, Ok, Err, if◌then◌else◌}
use Rattle.cns_terms.specs.Common.{AllByRecursion, Cusip, Day, Member, Rule, corporation, corporation_limit, first_refusal, is_beyond, is_exceeded, is_not_after, is_past, is_too_far, money_limit, moved_in, moved_out, option_map_or, pend_of, short, trade_entries}
use Rattle.cns_terms.specs.declared.command.Movement.{Movement}
use Rattle.cns_terms.specs.declared.command.Trade.{Trade}
use Rattle.cns_terms.specs.declared.holding.Entry.{Entry}
use Rattle.cns_terms.specs.declared.pend.Pend.{Pend}
use Rattle.cns_terms.specs.declared.refusal.Refusal.{Refusal}
use Rattle.cns_terms.specs.declared.refusal.Refusal.TheVariants.{NoSuchMember, NoSuchIssue, Retired, SameParty, WrongDay, SeenReference, ExceedsPosition, NotOnHand, NotLong, TooLarge}
use Rattle.cns_terms.specs.Pending.{is_due}
use Rattle.cns_trades.specs.declared.facts.MoveFacts.{MoveFacts}
use Rattle.cns_trades.specs.declared.facts.TradeFacts.{TradeFacts}
use Rattle.cns_trades.specs.declared.limits.Party.{Party}
use Rattle.cns_trades.specs.Sides.{sides_of}

-- a position, 0 where the account is no member
abbrev pub position_or_none : Option ℤ → ℤ
position_or_none q = unwrap_or q (pos 0)

-- the rules of an issue in which is booked: whether it is listed, and whether it is retired
abbrev pub issue_rules : Bool → Bool → List Rule
issue_rules listed retired = (NoSuchIssue, not listed) ∷ (Retired, retired) ∷ []

-- a party of a trade, with what it is to get and to give in the issue by trades that wait
abbrev pub party : List Pend → ℤ → Member → Cusip → Party
party ps q a c = record { position = q; waiting = sides_of ps (record { account = a; issue = c }) }

-- whether a trade that books now takes one of its parties beyond its limit
abbrev pub books_beyond : Party → Party → Pend → Bool
books_beyond b s p =
    is_beyond (b.position +ℤ pos p.shares) b.waiting.bought b.waiting.sold || is_beyond (s.position +ℤ neg_ℤ (pos p.shares)) s.waiting.bought s.waiting.sold

-- whether one that is to wait does
abbrev pub waits_beyond : Party → Party → Pend → Bool
waits_beyond b s p =
    is_beyond b.position (b.waiting.bought + p.shares) b.waiting.sold || is_beyond s.position s.waiting.bought (s.waiting.sold + p.shares)

-- whether a trade takes one of its parties beyond its limit, by what it does today
abbrev pub takes_beyond : TradeFacts → List Pend → Trade → Bool
takes_beyond f ps t =
    let b = party ps (position_or_none f.buyer) t.buyer t.issue in
    let s = party ps (position_or_none f.seller) t.seller t.issue in
    if is_not_after t.date f.today then books_beyond b s (pend_of t) else waits_beyond b s (pend_of t)

-- the rules of a trade; the flag says whether its reference was used
abbrev pub trade_rules : TradeFacts → List Pend → Bool → Trade → List Rule
trade_rules f ps seen t =
    (NoSuchMember, not (is_some f.buyer && is_some f.seller))
    ∷ (NoSuchIssue, not f.listed)
    ∷ (Retired, f.retired)
    ∷ (SameParty, t.buyer == t.seller)
    ∷ (WrongDay, is_past t.date f.today || is_too_far t.date f.today)
    ∷ (SeenReference, seen)
    ∷ (TooLarge, takes_beyond f ps t) ∷ []

-- the rules of a delivery
abbrev pub delivery_rules : MoveFacts → Movement → List Rule
delivery_rules f m =
    (NoSuchMember, not (is_some f.member))
    ∷ (NoSuchIssue, not f.listed)
    ∷ (Retired, f.retired)
    ∷ (ExceedsPosition, nat_lt (short (position_or_none f.member)) m.shares) ∷ []

-- the rules of a receipt
abbrev pub receipt_rules : MoveFacts → Movement → List Rule
receipt_rules f m =
    (NoSuchMember, not (is_some f.member))
    ∷ (NoSuchIssue, not f.listed)
    ∷ (Retired, f.retired)
    ∷ (ExceedsPosition, is_exceeded (position_or_none f.member) m.shares)
    ∷ (NotOnHand, int_lt (neg_ℤ (pos m.shares)) f.corporation)
    ∷ (NotLong, int_le (position_or_none f.member) (pos 0)) ∷ []

-- the first refusal, or what is booked
abbrev pub refusal_or : {X : Type 0} → List Rule → X → Result X Refusal
refusal_or rules x = option_map_or Err (first_refusal rules) (Ok x)

-- what a trade books: the entries of its buyer and its seller, nothing yet where it is to wait
abbrev pub booking : Day → Pend → Option (List Entry)
booking today p = if is_due today p then Some (trade_entries p) else None

-- the answer to a trade
abbrev pub trade_answer : TradeFacts → List Pend → Bool → Trade → Result (Option (List Entry)) Refusal
trade_answer f ps seen t = refusal_or (trade_rules f ps seen t) (booking f.today (pend_of t))

-- the answer to one that books now, if nothing else refuses it
abbrev pub book_answer : Party → Party → Pend → Result (Option (List Entry)) Refusal
book_answer b s p = if books_beyond b s p then Err TooLarge else Ok (Some (trade_entries p))

-- the answer to a delivery: the entries of the member and the corporation
abbrev pub delivery_answer : MoveFacts → Movement → Result (List Entry) Refusal
delivery_answer f m = refusal_or (delivery_rules f m) (moved_in m.member m ∷ moved_out corporation m ∷ [])

-- the answer to a receipt: the entries of the member and the corporation
abbrev pub receipt_answer : MoveFacts → Movement → Result (List Entry) Refusal
receipt_answer f m = refusal_or (receipt_rules f m) (moved_out m.member m ∷ moved_in corporation m ∷ [])

-- an entry is no larger than a trade or a movement can make it
pub record IsSmallEntry (e : Entry) : Type 0 where
  pub shares : unsigned_abs e.shares ≤ corporation_limit
  pub cents : unsigned_abs e.cents ≤ money_limit

-- and so is each of a list
abbrev pub AreSmallEntries : List Entry → Type 0
AreSmallEntries es = AllByRecursion IsSmallEntry es
