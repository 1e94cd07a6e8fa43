-- With room for one activity more, all numbers are small enough: positions, cents, and those of notices.
-- For `two_positions` and `holding` of parts/reading.rt, `give_notice` of parts/notice.rt, `receive` of parts/trading.rt, and `make_fills`, `check_execution` and `execute` of parts/execution.rt.
use Rattle.cns_book.proofs.Common.{ℕ, ◌≤◌, ◌<◌, ◌+◌, ◌*◌, List, length, Activity, Follows, booking_limit, history_limit, journal_len, arith, unsigned_abs, Contents, Cusip, HasRoom, Key, bounded, holding_at, journal, limited, near, position_limit, AreWithin, subst, ◌-◌, ◌^◌, [], ◌∷◌, slice_get, get_or_from_slice_get, AllByRecursion, Day, ForSome, IsReached, Journal, Notice, Noticed, day, days_by, each_append, each_map, kept_notices, length-map, notices, received_live, shares_executed, shares_limit, slice_get_within, kept, notices_few, All-from_recursion, recursion_from_All, kept_at}

-- the cents at each key are few
pub cents_few : (L : List Activity) (s : Contents) (k : Key) → Follows L s → length L + 1 < history_limit → unsigned_abs (holding_at s.rows k).contract ≤ booking_limit * history_limit
cents_few L s k f room = grind (arith, limited, journal_len)

-- what stands at each key is within its limits
pub rows_within : (s : Contents) → HasRoom s → AreWithin s.rows
rows_within s r = record {
  shares = λ k. let b = bounded s.opening (journal s.opening r.activities) k.issue (limited s.opening r.activities r.follows.reached) in grind (arith, r.follows.rows k, b.members k.account, b.corporation);
  cents = λ k. cents_few r.activities s k r.follows r.few;
}

-- a member's position is within its limit
pub member_within : (s : Contents) (a : ℕ) (c : Cusip) → 1 ≤ a → HasRoom s → unsigned_abs (holding_at s.rows (record { account = a; issue = c })).now ≤ position_limit
member_within s a c m r = rw r.follows.rows (near _ _ _ ((limited s.opening r.activities r.follows.reached).within a c m))

counted_few : (opening : Day) (L : List Activity) (n : Notice) → IsReached opening L → (received_live (journal opening L) n ≤ shares_limit * length L) × (shares_executed (journal opening L) n ≤ shares_limit * length L)
counted_few opening [] n r = (omega arith, omega arith)
counted_few opening (x ∷ L) n r = let range = r.0 in grind (arith, counted_few opening L n r.2)

-- what notices are given for
pub given_few : (opening : Day) (L : List Activity) → IsReached opening L → AllByRecursion (λ n. n.given.shares ≤ shares_limit) (notices (journal opening L))
given_few opening [] r = tt
given_few opening (x ∷ L) r = let range = r.0 in grind (arith, each_append, given_few opening L r.2)

-- what holds of each holds of the one at a place
pub each_at : {X : Type 0} (P : X → Type 0) (xs : List X) (i : ℕ) → AllByRecursion P xs → ForSome (slice_get xs i) P
each_at P xs i a y e = subst P (get_or_from_slice_get xs i y y e) (All-from_recursion P xs a i y (slice_get_within xs i y e))

-- what holds of each notice holds of each that is kept
each_kept : (P : Noticed → Type 0) (J : Journal) → ((n : Notice) → P (kept J n)) → AllByRecursion P (kept_notices J)
each_kept P J h = each_map P (kept J) (notices J) (recursion_from_All (λ n. P (kept J n)) (notices J) (λ i n lt. h _))

pub counts_fit : (s : Contents) → HasRoom s → (m : ℕ) → m ≤ shares_limit → (k : ℕ) → ForSome (kept_at s.notices k) (λ x. (x.received + m < 2 ^ 64) × (x.executed + m < 2 ^ 64))
counts_fit s room m small k = rw room.follows.notices (each_at (λ x. (x.received + m < 2 ^ 64) × (x.executed + m < 2 ^ 64)) (kept_notices (journal s.opening room.activities)) (k - 1) (each_kept (λ x. (x.received + m < 2 ^ 64) × (x.executed + m < 2 ^ 64)) (journal s.opening room.activities) (λ n. grind (arith, counted_few s.opening room.activities n room.follows.reached, room.few, small))))

-- one notice more can be numbered
pub notices_fit : (s : Contents) → HasRoom s → length s.notices + 1 < history_limit
notices_fit s room = grind (arith, length-map, notices_few, journal_len)

-- no notice is of a day after the open one
pub last_day : (s : Contents) → HasRoom s → (k : ℕ) → ForSome (kept_at s.notices k) (λ x. x.given.day ≤ s.closes + 1)
last_day s room k = rw (room.follows.notices, room.follows.clock.closes) (each_at (λ (x : Noticed). x.given.day ≤ day (journal s.opening room.activities)) (kept_notices (journal s.opening room.activities)) (k - 1) (each_map (λ (x : Noticed). x.given.day ≤ day (journal s.opening room.activities)) (kept (journal s.opening room.activities)) (notices (journal s.opening room.activities)) (days_by (journal s.opening room.activities))))
