-- What is booked at several keys, and what it makes of rows.
use Rattle.std.specs.Prelude.{◌≡◌, ◌≢◌, ◌<◌, ◌^◌, ℕ, ◌+ℤ◌, true, ◌&&◌, ◌==◌, List, map, unsigned_abs, if◌then◌else◌}
use Rattle.cns_actions.specs.Common.{AllByRecursion, entry_key, greatest, is_sorted, key_cmp, same_issue, Entry, Holding, Key, Rows, books, has_row, holding_at, with_age, Booking}

-- an entry, and an age that is brought to its key
abbrev pub booking : Entry → ℕ → Booking
booking e n = record { entry = e; carried = n }

-- bookings, each with its key
abbrev pub by_key : List Booking → List (Key × Booking)
by_key bs = map (λ b. (entry_key b.entry, b)) bs

-- what a booking makes of what stands at its key
abbrev pub entered : Booking → Holding → Holding
entered b h = with_age b.carried (record h { now = h.now +ℤ b.entry.shares; contract = h.contract +ℤ b.entry.cents })

-- their entries
abbrev pub entries_in : List Booking → List Entry
entries_in bs = map (λ b. b.entry) bs

-- the age that a booking brings to a key
abbrev pub carried_to : Key → Booking → ℕ
carried_to k b = if (b.entry.account == k.account) && same_issue b.entry.issue k.issue then b.carried else 0

-- what a booking makes of what stands at a key
abbrev pub made : Booking → Key → Holding → Holding
made b k h = if (b.entry.account == k.account) && same_issue b.entry.issue k.issue then entered b h else h

-- what bookings make of it
abbrev pub makes : List Booking → Key → Holding → Holding
makes bs k h = with_age (greatest (carried_to k) bs) (books (entries_in bs) k h)

-- numbers of less than half of what their types hold
pub record HasSpace (h : Holding) : Type 0 where
  pub shares : unsigned_abs h.now < 2 ^ 62
  pub cents : unsigned_abs h.contract < 2 ^ 126

-- and so in an entry
pub record IsSmall (e : Entry) : Type 0 where
  pub shares : unsigned_abs e.shares < 2 ^ 62
  pub cents : unsigned_abs e.cents < 2 ^ 126

-- bookings of such entries
abbrev pub AreSmall : List Booking → Type 0
AreSmall bs = AllByRecursion (λ b. IsSmall b.entry) bs

-- such bookings in the order of their keys, one at each key at most
pub record AreOrdered (bs : List Booking) : Type 0 where
  pub small : AreSmall bs
  pub rise : is_sorted key_cmp (by_key bs) ≡ true

-- each key has a row
abbrev pub AreEntered : Rows → List Booking → Type 0
AreEntered rows bs = AllByRecursion (λ b. has_row rows (entry_key b.entry) ≡ true) bs

-- and what stands there has space
abbrev pub HaveSpace : Rows → List Booking → Type 0
HaveSpace rows bs = AllByRecursion (λ b. HasSpace (holding_at rows (entry_key b.entry))) bs

-- none of them is booked at a key
abbrev pub AreElsewhere : Key → List Booking → Type 0
AreElsewhere k bs = AllByRecursion (λ b. k ≢ entry_key b.entry) bs
