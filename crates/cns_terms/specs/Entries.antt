-- What accepted activities book.
use Rattle.std.specs.Prelude.{ℤ, pos, ◌-ℤ◌, neg_ℤ, not, List, [], ◌∷◌, ◌++◌, map, filter, if◌then◌else◌, flat_map}
use Rattle.cns_terms.specs.Types.{option_map_or, int_eq, Account, Member, Cusip, Day, Exchange, Execution, Fill, Activity, Movement, Entry, Pend}
use Rattle.cns_terms.specs.declared.action.Split.{Split}
use Rattle.cns_terms.specs.Conversions.{converted, in_lieu, in_exchange}
use Rattle.cns_terms.specs.Days.{date, is_not_after}
use Rattle.cns_terms.specs.Fills.{fills}
use Rattle.cns_terms.specs.Listings.{members}
use Rattle.cns_terms.specs.Notices.{Notice, notice_at}
use Rattle.cns_terms.specs.Pending.{due, pend_of}
use Rattle.cns_terms.specs.Positions.{position}
use Rattle.cns_terms.specs.Postings.{Posting, Journal}
use Rattle.cns_terms.specs.Sums.{total}

-- shares and cents for an account in an issue
abbrev pub entry : Account → Cusip → ℤ → ℤ → Entry
entry a c shares cents = record { account = a; issue = c; shares = shares; cents = cents }

-- what a trade books for its buyer: the shares come in, the money is owed
abbrev pub buyer_entry : Pend → Entry
buyer_entry p = entry p.buyer p.issue (pos p.shares) (neg_ℤ (pos p.cents))

-- and for its seller: the shares are owed, the money comes in
abbrev pub seller_entry : Pend → Entry
seller_entry p = entry p.seller p.issue (neg_ℤ (pos p.shares)) (pos p.cents)

-- what a trade books once its date has come
abbrev pub trade_entries : Pend → List Entry
trade_entries p = buyer_entry p ∷ seller_entry p ∷ []

-- the number of the corporation's account
abbrev pub corporation : Account
corporation = 0

-- shares that come to an account by a movement, without cents
abbrev pub moved_in : Account → Movement → Entry
moved_in a m = entry a m.issue (pos m.shares) (pos 0)

-- shares that leave an account by a movement, without cents
abbrev pub moved_out : Account → Movement → Entry
moved_out a m = entry a m.issue (neg_ℤ (pos m.shares)) (pos 0)

-- the members with a position, by their positions in an issue
abbrev pub holders : (Account → ℤ) → List Member → List Member
holders q ms = filter (λ a. not (int_eq (q a) (pos 0))) ms

-- members' entries in one issue, and the corporation's, which is the opposite of their sums
abbrev pub against_corporation : Cusip → List Entry → List Entry
against_corporation c es = entry corporation c (neg_ℤ (total (λ e. e.shares) es)) (neg_ℤ (total (λ e. e.cents) es)) ∷ es

-- what a split books for a member, by its position in the issue
abbrev pub split_entry : Split → (Account → ℤ) → Member → Entry
split_entry s q a = entry a s.issue (converted s.ratio (q a) -ℤ q a) (in_lieu s.ratio s.lieu (q a))

-- what an exchange books for a member in the old issue, by its position there
abbrev pub old_entry : Exchange → (Account → ℤ) → Member → Entry
old_entry x q a = entry a x.old (neg_ℤ (q a)) (pos 0)

-- and in the successor
abbrev pub new_entry : Exchange → (Account → ℤ) → Member → Entry
new_entry x q a = entry a x.successor (converted x.ratio (q a)) (in_exchange x.ratio x.lieu x.cash (q a))

-- the entries of a split, by the positions in the issue
abbrev pub split_entries : Split → (Account → ℤ) → List Member → List Entry
split_entries s q ms = against_corporation s.issue (map (split_entry s q) (holders q ms))

-- the entries of an exchange, by the positions in the old issue
abbrev pub exchange_entries : Exchange → (Account → ℤ) → List Member → List Entry
exchange_entries x q ms =
    against_corporation x.old (map (old_entry x q) (holders q ms))
    ++ against_corporation x.successor (map (new_entry x q) (holders q ms))

-- what an execution books for the member that gave the notice: the shares that it bought in, and their money
abbrev pub originator_entry : Execution → Notice → Entry
originator_entry x k = entry k.given.member k.given.issue (neg_ℤ (pos x.shares)) (pos x.money)

-- and for a member that is filled
abbrev pub fill_entry : Notice → Fill → Entry
fill_entry k f = entry f.member k.given.issue (pos f.shares) (neg_ℤ (pos f.cents))

-- the entries of an execution, by its notice
abbrev pub execution_entries : Journal → Execution → Notice → List Entry
execution_entries J x k = originator_entry x k ∷ map (fill_entry k) (fills J x k)

-- the entries that an activity books: a trade whose date has come books at once, and others with the close that names their
-- date or a later one; a delivery raises the member's position, a receipt the corporation's; splits and exchanges book for
-- all who have a position
abbrev pub entries : Day → Journal → Activity → List Entry
entries opening J (Activity.Member m) = []
entries opening J (Activity.Issue l) = []
entries opening J (Activity.Trade t) = if is_not_after t.date (date opening J) then trade_entries (pend_of t) else []
entries opening J (Activity.Price l) = []
entries opening J (Activity.Deliver m) = moved_in m.member m ∷ moved_out corporation m ∷ []
entries opening J (Activity.Receive m) = moved_out m.member m ∷ moved_in corporation m ∷ []
entries opening J (Activity.Dividend d) = []
entries opening J (Activity.Split s) = split_entries s (λ a. position J a s.issue) (members J)
entries opening J (Activity.Exchange x) = exchange_entries x (λ a. position J a x.old) (members J)
entries opening J (Activity.Notice m) = []
entries opening J (Activity.Withdraw k) = []
entries opening J (Activity.Execute x) = option_map_or (execution_entries J x) (notice_at J x.notice) []
entries opening J (Activity.Close d) = flat_map trade_entries (due opening J d)

-- an activity with the entries that it books on a journal
abbrev pub posting : Day → Journal → Activity → Posting
posting opening J x = record { activity = x; entries = entries opening J x }

-- the journal of the accepted activities, the newest first
abbrev pub journal : Day → List Activity → Journal
journal opening [] = []
journal opening (x ∷ L) = let J = journal opening L in posting opening J x ∷ J
