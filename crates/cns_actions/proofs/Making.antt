-- Bookings that are made one after another: what stands at each key.
-- For `enter_all`, `book_one` and `book_all` of bookings.rt, `with` of due_amounts.rt, `listed` of due_bookings.rt, and `prepare` of effect.rt in cns_book.
use Rattle.cns_actions.proofs.Common.{◌≡◌, ◌≢◌, ap, refl, ℕ, ◌+◌, ◌<◌, max, ℤ, pos, ◌+ℤ◌, Bool, true, false, cond, ◌&&◌, ◌==◌, is_some, List, [], ◌∷◌, length, get_or, drop, arith, is_lt, AreElsewhere, AreEntered, AreSmall, Booking, HaveSpace, Holding, Key, Rows, aged, below_all, booked, by_key, carried_to, cents_for, entered, entries_in, entry_of, greatest, has_row, holding_at, ints, is_sorted, key_cmp, entry_key, made, makes, same_issue, same_key, shares_for, total, with_age, All-from_recursion, All-get_or, +ℤ_idr, max-zero, ◌^◌, of_z, to_z, unsigned_abs, w64, to_z-of_z, fits_signed_from_abs, w128, row_at}

-- ---- what bookings make at a key

max_assoc : (a b c : ℕ) → max a (max b c) ≡ max (max a b) c
max_assoc a b c = omega arith

-- bookings are made one after another
pub makes_first : (b : Booking) (bs : List Booking) (k : Key) (h : Holding) → makes (b ∷ bs) k h ≡ makes bs k (made b k h)
makes_first b bs k h = by ((b.entry.account == k.account) && same_issue b.entry.issue k.issue) (total (shares_for k.account k.issue) (entries_in bs)) (total (cents_for k.account k.issue) (entries_in bs)) (greatest (carried_to k) bs)
  where
    later : (a x n : ℤ) → (a +ℤ x) +ℤ n ≡ x +ℤ (n +ℤ a)
    later a x n = omega (arith, ints)

    by : (t : Bool) (x y : ℤ) (n : ℕ) → with_age (max (cond t b.carried 0) n) (record h { now = (cond t b.entry.shares (pos 0) +ℤ x) +ℤ h.now; contract = (cond t b.entry.cents (pos 0) +ℤ y) +ℤ h.contract })
        ≡ with_age n (record (cond t (entered b h) h) { now = x +ℤ (cond t (entered b h) h).now; contract = y +ℤ (cond t (entered b h) h).contract })
    by true x y n = rw (later b.entry.shares x h.now, later b.entry.cents y h.contract, max_assoc h.carried b.carried n) refl
    by false x y n = grind (arith, ints)

-- shares and cents that are booked, and an age that is brought, are the booking
pub one_made : (b : Booking) (k : Key) (h : Holding) → aged (entry_key b.entry) b.carried k (booked (entry_of (entry_key b.entry) b.entry.shares b.entry.cents) k h) ≡ made b k h
one_made b k h = grind (arith, +ℤ_idr, max-zero)

-- so are they alone, where no age is brought
pub made_alone : (b : Booking) (k : Key) (h : Holding) → b.carried ≡ 0 → booked (entry_of (entry_key b.entry) b.entry.shares b.entry.cents) k h ≡ made b k h
made_alone b k h none = grind (arith, +ℤ_idr, max-zero)

-- what stands above the key of a booking stays
made_above : (b : Booking) (k : Key) (h : Holding) → is_lt (key_cmp (entry_key b.entry) k) ≡ true → made b k h ≡ h
made_above b k h l = grind (arith, same_key (entry_key b.entry) k)

-- shares that are passed in registers are as they were, and so are cents
pub shares_passed : (z : ℤ) → unsigned_abs z < 2 ^ 63 → to_z w64 (of_z w64 z) ≡ z
shares_passed z h = grind (arith, to_z-of_z, fits_signed_from_abs)

pub cents_passed : (z : ℤ) → unsigned_abs z < 2 ^ 127 → to_z w128 (of_z w128 z) ≡ z
cents_passed z h = grind (arith, to_z-of_z, fits_signed_from_abs)

-- bookings that can be made
pub record AreReady (rows : Rows) (bs : List Booking) : Type 0 where
  pub there : AreEntered rows bs
  pub space : HaveSpace rows bs
  pub small : AreSmall bs
  pub rise : is_sorted key_cmp (by_key bs) ≡ true

-- where the first of them is made, the others can be made still
module _ (b : Booking) (old new : Rows) (one : (k : Key) → holding_at new k ≡ made b k (holding_at old k)) (places : (k : Key) → has_row new k ≡ has_row old k) where
  others_ready : (bs : List Booking) → below_all key_cmp (entry_key b.entry) (by_key bs) ≡ true → AreEntered old bs → HaveSpace old bs → AreEntered new bs × HaveSpace new bs
  others_ready [] l t s = (tt, tt)
  others_ready (d ∷ ds) l t s = grind (arith, places (entry_key d.entry), one (entry_key d.entry), made_above b (entry_key d.entry), others_ready ds)

  pub next_ready : (bs : List Booking) → AreReady old (b ∷ bs) → AreReady new bs
  next_ready bs ready = grind (arith, ready, others_ready bs)

-- a key where none is booked is not that of the booking at a place
pub elsewhere_at : (k : Key) (bs : List Booking) (i : ℕ) (b : Booking) → i < length bs → b ≡ get_or bs i b → AreElsewhere k bs → k ≢ entry_key b.entry
elsewhere_at k bs i b lt is e = rw is (All-get_or (λ b. k ≢ entry_key b.entry) bs i b lt (All-from_recursion _ bs e))

-- the same row is there or not
pub others_stay : (new old : Rows) (k : Key) → row_at new k ≡ row_at old k → has_row new k ≡ has_row old k
unfolding row_at
others_stay new old k same = ap is_some same
