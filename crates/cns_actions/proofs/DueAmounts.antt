-- What trades book, added up by key.
-- For `listed` of due_bookings.rt, `add`, `add_trade` and `of` of due_amounts.rt.
use Rattle.cns_actions.proofs.Common.{◌≡◌, ◌≢◌, ◌∙◌, refl, ℕ, ◌+◌, ◌*◌, ◌^◌, ◌≤◌, ◌<◌, ◌+ℤ◌, true, false, cond, unsigned_abs, List, [], ◌∷◌, map, Some, None, arith, is_eq, AllByRecursion, IsSmall, each_map, each_weaker, Amount, AmountsByKey, AreApartFrom, AreElsewhere, AreSmall, Day, Entry, HasRoomForTrade, Holding, IsOneTradeMore, IsSmallAmount, Key, Pend, amount_at, amount_for, amount_of, as_booking, below_all, buyer_entry, by_key, due_entries, equal, exact_keys, find, find_below, insert_entry, ints, is_sorted, key_cmp, entry_key, keys_total, lookup, makes, money_limit, same_key, seller_entry, shares_limit, tied_below, tied_itself, trade_entries, with_amount, with_entry, +ℤ_assoc, +ℤ_comm, +ℤ_idl, +ℤ_idr, max-zero}
use Rattle.std.specs.BTreeMap.{is_at}
use Rattle.cns_terms.specs.Pending.{is_due}
use Rattle.std.proofs.lemmas.Cmp.{eq_by_cmp_equiv}
use Rattle.cns_actions.proofs.Making.{makes_first}

-- what is booked at a key has room, where each amount has
pub room_at : (k : Key) (es : AmountsByKey) → AllByRecursion (λ e. IsSmallAmount e.1) es → IsSmallAmount (amount_at es k)
room_at k [] h = record { shares = omega arith; cents = omega arith }
room_at k (e ∷ es) h = grind (arith, room_at k es h.1)

-- and so with one put in
pub small_insert : (k : Key) (a : Amount) (es : AmountsByKey) → IsSmallAmount a → AllByRecursion (λ e. IsSmallAmount e.1) es → AllByRecursion (λ e. IsSmallAmount e.1) (insert_entry key_cmp es k a)
small_insert k a [] h small = (h, tt)
small_insert k a (e ∷ es) h small = grind (arith, small_insert k a es h small.1)

module _ (old new : AmountsByKey) (key : Key) (a : Amount) (updates : (q : Key) → lookup (is_at (key_cmp q)) new ≡ cond (is_eq (key_cmp key q)) (Some a) (lookup (is_at (key_cmp q)) old)) where
  -- the amount at each key, where an entry is added
  pub amounts_added : (e : Entry) → key ≡ entry_key e → a ≡ with_entry (amount_at old key) e → (k : Key) → amount_at new k ≡ with_amount (amount_at old k) (amount_for e k)
  amounts_added e own is k = grind (arith, ints, updates k, exact_keys key k, equal, same_key key k)

  -- at another key nothing is put in
  pub found_apart : (k : Key) → k ≢ key → find key_cmp k new ≡ find key_cmp k old
  found_apart k apart = grind (arith, updates k, exact_keys key k)

-- ---- as bookings

-- they are in order, at the same keys
below_bookings : (k : Key) (es : AmountsByKey) → below_all key_cmp k (by_key (map as_booking es)) ≡ below_all key_cmp k es
below_bookings k [] = refl
below_bookings k (e ∷ es) = grind (arith, below_bookings k es)

pub sorted_bookings : (es : AmountsByKey) → is_sorted key_cmp (by_key (map as_booking es)) ≡ is_sorted key_cmp es
sorted_bookings [] = refl
sorted_bookings (e ∷ es) = grind (arith, below_bookings e.0 es, sorted_bookings es)

-- and small
pub amounts_small : (es : AmountsByKey) → AllByRecursion (λ e. IsSmallAmount e.1) es → AreSmall (map as_booking es)
amounts_small es h = each_map (λ b. IsSmall b.entry) as_booking es (each_weaker _ _ es (λ e h. grind (arith, h)) h)

-- and none is at a key at which nothing is booked
pub amounts_elsewhere : (k : Key) (es : AmountsByKey) → find key_cmp k es ≡ None → AreElsewhere k (map as_booking es)
amounts_elsewhere k [] none = tt
amounts_elsewhere k (e ∷ es) none = grind (arith, tied_itself keys_total k, amounts_elsewhere k es)

-- each key gets its amount
pub bookings_make : (es : AmountsByKey) → is_sorted key_cmp es ≡ true → (k : Key) (h : Holding) → makes (map as_booking es) k h ≡ record h { now = (amount_at es k).shares +ℤ h.now; contract = (amount_at es k).cents +ℤ h.contract }
bookings_make [] s k h = grind arith
bookings_make (e ∷ es) s k h = grind (arith, +ℤ_idl, +ℤ_comm h.now e.1.shares, +ℤ_comm h.contract e.1.cents, makes_first (as_booking e) (map as_booking es) k h, bookings_make es, same_key e.0 k, (eq_by_cmp_equiv keys_total).symm k e.0, equal, find_below keys_total k es, tied_below keys_total k e.0 es, max-zero)

-- ---- trades

-- what so many trades may book at a key
pub record IsOfTrades (n : ℕ) (a : Amount) : Type 0 where
  pub shares : unsigned_abs a.shares ≤ shares_limit * n
  pub cents : unsigned_abs a.cents ≤ money_limit * n

-- what a number of trades booked, and what is left to be booked of all
pub record IsBooked (all : List Entry) (n : ℕ) (now : AmountsByKey) (left : List Entry) : Type 0 where
  pub sums : (k : Key) → amount_of all k ≡ with_amount (amount_at now k) (amount_of left k)
  pub others : (k : Key) → AreApartFrom k all → AreApartFrom k left × (find key_cmp k now ≡ None)
  pub few : (k : Key) → IsOfTrades n (amount_at now k)

-- before the first
pub none_booked : (all : List Entry) → IsBooked all 0 [] all
none_booked all = record { sums = λ k. grind (arith, ints); others = λ k apart. (apart, refl); few = λ k. record { shares = omega arith; cents = omega arith } }

-- a trade is passed over
pub trade_passed : (all : List Entry) (next : Day) (n : ℕ) (now : AmountsByKey) (p : Pend) (rest : List Pend) → is_due next p ≡ false → IsBooked all n now (due_entries next (p ∷ rest)) → IsBooked all (n + 1) now (due_entries next rest)
trade_passed all next n now p rest due b = grind (arith, b)

-- what a trade books at a key, one entry after the other
pub trade_sums : (p : Pend) (k : Key) (a : Amount) → with_amount (with_amount a (amount_for (buyer_entry p) k)) (amount_for (seller_entry p) k) ≡ with_amount a (amount_of (trade_entries p) k)
trade_sums p k a = simp (+ℤ_assoc, +ℤ_idr)

-- or booked
pub trade_booked : (all : List Entry) (next : Day) (n : ℕ) (now new : AmountsByKey) (p : Pend) (rest : List Pend) → is_due next p ≡ true → ((k : Key) → amount_at new k ≡ with_amount (amount_at now k) (amount_of (trade_entries p) k)) → ((k : Key) → IsOneTradeMore (amount_at now k) (amount_at new k))
    → ((k : Key) → AreApartFrom k (trade_entries p) → find key_cmp k new ≡ find key_cmp k now) → IsBooked all n now (due_entries next (p ∷ rest)) → IsBooked all (n + 1) new (due_entries next rest)
trade_booked all next n now new p rest due more bound others b =
    record { sums = λ k. (rw due at b.sums) k ∙ rw (more k) (simp (+ℤ_assoc, +ℤ_idr)); others = λ k apart. let h = (rw due at b.others) k apart in (h.0.1.1, others k (h.0.0, (h.0.1.0, tt)) ∙ h.1); few = λ k. grind (arith, b.few k, bound k) }

-- as many as may wait leave room for one more
pub room_left : (i n : ℕ) (a : Amount) → i < n → n ≤ 2 ^ 32 → IsOfTrades i a → HasRoomForTrade a
room_left i n a lt le few = record { shares = omega (arith, lt, le, few.shares); cents = omega (arith, lt, le, few.cents) }

-- at the end nothing is left
pub all_booked : (all : List Entry) (n : ℕ) (now : AmountsByKey) (k : Key) → IsBooked all n now [] → amount_at now k ≡ amount_of all k
all_booked all n now k b = grind (arith, ints, b.sums k)

-- which is no more than the trade at any key
pub trade_bound : (p : Pend) (k : Key) (a : Amount) → unsigned_abs (buyer_entry p).shares ≤ shares_limit → unsigned_abs (buyer_entry p).cents ≤ money_limit → IsOneTradeMore a (with_amount (with_amount a (amount_for (buyer_entry p) k)) (amount_for (seller_entry p) k))
trade_bound p k a h1 h2 = grind (arith, ints)

-- so there is room for the seller's entry after the buyer's
pub trade_room : (p : Pend) (k : Key) (a : Amount) → unsigned_abs (buyer_entry p).shares ≤ shares_limit → unsigned_abs (buyer_entry p).cents ≤ money_limit → HasRoomForTrade a → IsSmallAmount (with_entry (with_amount a (amount_for (buyer_entry p) k)) (seller_entry p))
trade_room p k a h1 h2 room = grind (arith, ints)
