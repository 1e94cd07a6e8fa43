-- Rows of zeros: they may be left out.
-- For `copied` of beside.rt in cns_actions.
use Rattle.cns_positions.proofs.Common.{◌≡◌, true, None, arith, nat_tests, ints, Key, Rows, find_filter, held_above, holding_at, is_held, is_sorted, key_cmp, keys_total, sorted_filter}

-- the rows that aren't zeros are in order
pub held_sorted : (rows : Rows) → is_sorted key_cmp rows ≡ true → is_sorted key_cmp (held_above rows None) ≡ true
held_sorted rows s = sorted_filter keys_total is_held rows s

-- and the same stands at each key among them
pub held_same : (rows : Rows) (k : Key) → is_sorted key_cmp rows ≡ true → holding_at (held_above rows None) k ≡ holding_at rows k
held_same rows k s = grind (arith, nat_tests, ints, find_filter keys_total is_held k rows s)
