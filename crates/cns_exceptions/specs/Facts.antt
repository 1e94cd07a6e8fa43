-- Facts that decided a refusal, as a book shows them.
use Rattle.std.specs.Prelude.{◌≡◌, ◌-◌, ◌^◌, IfSome, List, [], ◌∷◌, Option, Some, min, option_map}
use Rattle.std.specs.List.{find}
use Rattle.cns_exceptions.specs.Common.{Cusip, Day, Exchange, State, date, day, journal_of, Log, state_of, notice_shown, position_shown, price_shown, same_issue, Refusal, Fact, Waiting}
use Rattle.cns_book.specs.Places.{waiting}
use Rattle.cns_terms.specs.declared.holding.Key.{Key}
use Rattle.cns_trades.specs.Sides.{sides_of}

-- the open day's date
abbrev pub open_date : Log → Day
open_date log = let S = state_of log in date S.opening (journal_of S)

-- the open day
abbrev pub today_in : State → Fact
today_in S = Fact.Today (date S.opening (journal_of S)) (day (journal_of S))

-- what an account is to get and to give in an issue by the trades that wait, as far as the figures go
abbrev pub waiting_at : Log → Key → Waiting
waiting_at log k =
    let s = sides_of (waiting log) k in
    record { key = k; bought = min s.bought (2 ^ 64 - 1); sold = min s.sold (2 ^ 64 - 1) }

-- a fact as the book shows it, by the accepted exchanges: the open day; a notice; an issue with its price; the exchange of an issue; what
-- stands at a place; what waits there; the first of the trades that wait in an issue; the room of a liable member
abbrev pub IsShown : List Exchange → Log → Refusal → Fact → Type 0
IsShown xs log r (Fact.Today d n) = (d ≡ open_date log) × (n ≡ day (journal_of (state_of log)))
IsShown xs log r (Fact.Notice n k) = notice_shown (state_of log) n ≡ Some k
IsShown xs log r (Fact.Price c p) = p ≡ price_shown (state_of log) c
IsShown xs log r (Fact.Exchanged x) = (r ≡ Refusal.Retired) × (c : Cusip) × (find (λ y. same_issue y.old c) xs ≡ Some x)
IsShown xs log r (Fact.Position k n) = n ≡ option_map (λ h. h.now) (position_shown (state_of log) k)
IsShown xs log r (Fact.Waiting w) = (r ≡ Refusal.TooLarge) × (w ≡ waiting_at log w.key)
IsShown xs log r (Fact.Pending p) = (r ≡ Refusal.PendingTrades) × (c : Cusip) × (find (λ q. same_issue q.issue c) (waiting log) ≡ Some p)
IsShown xs log r (Fact.Room n) = r ≡ Refusal.NotLiable n

-- what decided a refusal is as the book shows it
abbrev pub AreShown : List Exchange → Log → Refusal → List (Option Fact) → Type 0
AreShown xs log r [] = Unit {0}
AreShown xs log r (f ∷ fs) = IfSome f (IsShown xs log r) × AreShown xs log r fs
