-- Positions that can be booked stay so.
-- For `open` of parts/opening.rt in cns_book, `close_day` of parts/closing.rt in cns_book.
use Rattle.cns_actions.proofs.Common.{◌≡◌, ap, ◌≤◌, unsigned_abs, arith, CanBeBooked, Holding, Key, Rows, amount_limit, corporation, holding_at, rolled}

-- positions that are the same, with cents within the limit
kept : (rows new : Rows) → CanBeBooked rows → ((k : Key) → (holding_at new k).now ≡ (holding_at rows k).now) → ((k : Key) → unsigned_abs (holding_at new k).contract ≤ amount_limit) → CanBeBooked new
kept rows new can same cents = record { members = λ a c le. rw (same (record { account = a; issue = c })) (can.members a c le); corporation = λ c. rw (same (record { account = corporation; issue = c })) (can.corporation c); cents = cents }

-- what stands at each key is all that counts
pub can_same : (rows new : Rows) → CanBeBooked rows → ((k : Key) → holding_at new k ≡ holding_at rows k) → CanBeBooked new
can_same rows new can same = kept rows new can (λ k. ap (λ (h : Holding). h.now) (same k)) (λ k. rw (same k) (can.cents k))

-- and so after a close
pub can_rolled : (rows new : Rows) → CanBeBooked rows → ((q : Key) → holding_at new q ≡ rolled (holding_at rows q)) → CanBeBooked new
can_rolled rows new can is = kept rows new can (λ k. ap (λ (h : Holding). h.now) (is k)) (λ k. rw (is k) (omega arith))
