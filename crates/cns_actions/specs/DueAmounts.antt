-- What trades book once their date has come, added up by key.
use Rattle.std.specs.Prelude.{◌≡◌, ◌≢◌, ◌<◌, ◌≤◌, ◌+◌, ◌^◌, pos, ◌+ℤ◌, true, List, filter, unwrap_or, unsigned_abs, flat_map}
use Rattle.cns_actions.specs.Common.{AllByRecursion, Day, cents_for, entry, entry_key, is_sorted, key_cmp, money_limit, shares_for, shares_limit, total, trade_entries, Entry, Key, Pend, Booking}
use Rattle.std.specs.FinMap.{find}
use Rattle.cns_terms.specs.Pending.{is_due}
use Rattle.cns_actions.specs.declared.due_amounts.Amount.{Amount}
use Rattle.cns_actions.specs.Bookings.{booking}

-- what is booked at each key, in the order of keys
abbrev pub AmountsByKey : Type 0
AmountsByKey = List (Key × Amount)

-- what is booked at a key; zeros where no entry names it
abbrev pub amount_at : AmountsByKey → Key → Amount
amount_at es k = unwrap_or (find key_cmp k es) (record { shares = pos 0; cents = pos 0 })

-- with what one more entry books
abbrev pub with_entry : Amount → Entry → Amount
with_entry a e = record { shares = a.shares +ℤ e.shares; cents = a.cents +ℤ e.cents }

-- two amounts together
abbrev pub with_amount : Amount → Amount → Amount
with_amount a b = record { shares = a.shares +ℤ b.shares; cents = a.cents +ℤ b.cents }

-- what an entry books at a key
abbrev pub amount_for : Entry → Key → Amount
amount_for e k = record { shares = shares_for k.account k.issue e; cents = cents_for k.account k.issue e }

-- what entries book at a key together
abbrev pub amount_of : List Entry → Key → Amount
amount_of es k = record {
  shares = total (shares_for k.account k.issue) es;
  cents = total (cents_for k.account k.issue) es;
}

-- the entries of trades that are due on a day
abbrev pub due_entries : Day → List Pend → List Entry
due_entries next ps = flat_map trade_entries (filter (is_due next) ps)

-- none of the entries is booked at a key
abbrev pub AreApartFrom : Key → List Entry → Type 0
AreApartFrom k es = AllByRecursion (λ e. k ≢ entry_key e) es

-- what is booked at a key, as one entry, which brings no age
abbrev pub as_booking : Key × Amount → Booking
as_booking e = booking (entry e.0.account e.0.issue e.1.shares e.1.cents) 0

-- an amount of less than half of what its types hold
pub record IsSmallAmount (a : Amount) : Type 0 where
  pub shares : unsigned_abs a.shares < 2 ^ 62
  pub cents : unsigned_abs a.cents < 2 ^ 126

-- and so with one trade more
pub record HasRoomForTrade (a : Amount) : Type 0 where
  pub shares : unsigned_abs a.shares + shares_limit < 2 ^ 62
  pub cents : unsigned_abs a.cents + money_limit < 2 ^ 126

-- an amount is further from zero than another by one trade at most
pub record IsOneTradeMore (old new : Amount) : Type 0 where
  pub shares : unsigned_abs new.shares ≤ unsigned_abs old.shares + shares_limit
  pub cents : unsigned_abs new.cents ≤ unsigned_abs old.cents + money_limit

-- such amounts in the order of keys
pub record AreAmounts (es : AmountsByKey) : Type 0 where
  pub order : is_sorted key_cmp es ≡ true
  pub small : AllByRecursion (λ e. IsSmallAmount e.1) es
