-- What payments book.
-- For `pay_members`, `add` and `pay` of payments.rt.
use Rattle.cns_sheets.proofs.Common.{◌≡◌, refl, ◌+◌, ◌*◌, ◌^◌, ◌≤◌, ◌==◌, ℤ, pos, ◌+ℤ◌, ◌-ℤ◌, neg_ℤ, of_z, to_z, Bool, true, not, cond, ◌&&◌, List, [], ◌∷◌, ◌++◌, Option, Some, unwrap_or, arith, FitsSigned, unsigned_abs, sum_by, is_eq, CentsByKey, IsPayable, Key, Row, by_key, cash, cents_at, closing_at, corporation, equal, exact_keys, find_below, insert_entry, ints, is_sorted, key_cmp, row_key, keys_total, lookup, member_cash, paid, same_issue, same_key, sum_by-cons, sum_by-append, total, w128, Declared}
use Rattle.std.specs.BTreeMap.{is_at}
use Rattle.std.proofs.Math.IntN.{+ℤ_assoc, +ℤ_comm, +ℤ_idl, +ℤ_idr}
use Rattle.std.proofs.lemmas.Cmp.{eq_by_cmp_equiv}
use Rattle.cns_sheets.proofs.Weaving.{below_later}

-- ---- cents, added at a key

-- the sum of cents, with more at one key
pub sum_added : (k : Key) (v cents : ℤ) (es : CentsByKey) → is_sorted key_cmp es ≡ true → v ≡ cents_at es k +ℤ cents → total (λ e. e.1) (insert_entry key_cmp es k v) ≡ total (λ e. e.1) es +ℤ cents
sum_added k v cents [] s is = omega (arith, ints, is)
sum_added k v cents (e ∷ es) s is = grind (arith, is, +ℤ_idl, +ℤ_assoc, +ℤ_comm cents (e.1 +ℤ total (λ e. e.1) es), +ℤ_comm cents (total (λ e. e.1) es), find_below keys_total k es, below_later k e.0 es, sum_added k v cents es)

-- what a search found, as the cents at a key
pub had_is : (k : Key) (es : CentsByKey) (o : Option ℤ) (n : ℤ) → n ≡ unwrap_or o (pos 0) → o ≡ lookup (is_at (key_cmp k)) es → n ≡ cents_at es k
had_is k es o n is found = rw found at is

-- the cents at each key, where they are added to at one
pub cents_added : (old new : CentsByKey) (key : Key) (v cents : ℤ) → ((q : Key) → lookup (is_at (key_cmp q)) new ≡ cond (is_eq (key_cmp key q)) (Some v) (lookup (is_at (key_cmp q)) old)) → v ≡ cents_at old key +ℤ cents
    → (k : Key) → cents_at new k ≡ cents_at old k +ℤ cond (is_eq (key_cmp k key)) cents (pos 0)
cents_added old new key v cents updates is k = rw (updates k, (eq_by_cmp_equiv keys_total).symm key k) (grind (arith, ints, is, exact_keys k key))

-- ---- registers of 128 bits

-- small numbers fit
pub fits : (z : ℤ) → unsigned_abs z ≤ 10 ^ 34 → FitsSigned w128 z
fits z h = omega (arith, ints, h)

-- the opposite of a number
pub neg_is : (z : ℤ) → unsigned_abs z ≤ 10 ^ 21 → to_z w128 (of_z w128 (pos 0 -ℤ to_z w128 (of_z w128 z))) ≡ neg_ℤ z
neg_is z h = grind arith

-- a payment adds little at a key
pub both_small : (e : Bool) (old part now new sum : ℤ) → now ≡ old +ℤ part → new ≡ now +ℤ cond e (neg_ℤ sum) (pos 0) → unsigned_abs part ≤ 10 ^ 21 → unsigned_abs sum ≤ 10 ^ 21 → unsigned_abs new ≤ unsigned_abs old + 2 * 10 ^ 21
both_small e old part now new sum was is a b = grind arith

-- ---- the members of one payment

module _ (d : Declared) where
  -- what is booked for a row at a key
  abbrev pub booked : Key → Row → ℤ
  booked k r = cond (is_eq (key_cmp k (row_key r))) (member_cash d r) (pos 0)

  -- what is at most the cash of each row adds up to no more than all of it, whatever the signs
  within : (f : Row → ℤ) → ((r : Row) → unsigned_abs (f r) ≤ unsigned_abs (member_cash d r)) → (rows : List Row) → unsigned_abs (total f rows) ≤ sum_by (λ r. unsigned_abs (member_cash d r)) rows
  within f le [] = omega arith
  within f le (r ∷ rows) = omega (arith, ints, sum_by-cons (λ r. unsigned_abs (member_cash d r)) r rows, le r, within f le rows)

  -- what all members get
  pub all_small : (rows : List Row) → IsPayable (d, rows) → unsigned_abs (total (member_cash d) rows) ≤ 10 ^ 21
  all_small rows payable = omega (arith, within (member_cash d) (λ r. omega arith) rows, payable)

  -- and at a key
  pub all_booked_small : (rows : List Row) → IsPayable (d, rows) → (k : Key) → unsigned_abs (total (booked k) rows) ≤ 10 ^ 21
  all_booked_small rows payable k = omega (arith, within (booked k) (λ r. grind arith) rows, payable)

  -- and the first of them, and the next one
  pub step_small : (k : Key) (ys zs : List Row) (r : Row) → IsPayable (d, ys ++ r ∷ zs) → (unsigned_abs (total (booked k) ys) ≤ 10 ^ 21) × (unsigned_abs (member_cash d r) ≤ 10 ^ 21) × (unsigned_abs (total (member_cash d) ys) ≤ 10 ^ 21)
  step_small k ys zs r payable = grind (arith, sum_by-append (λ r. unsigned_abs (member_cash d r)) ys (r ∷ zs), sum_by-cons (λ r. unsigned_abs (member_cash d r)) r zs, all_small ys, all_booked_small ys)

  -- ---- what a payment books at a key

  -- the cash of a closing position at a key, which only a member's in the issue has
  abbrev cash_at : Key → ℤ → ℤ
  cash_at k closing = cond (same_issue k.issue d.issue && not (k.account == corporation)) (cash closing d.rate) (pos 0)

  -- the sum over the rows of a key has one term
  booked_once : (k : Key) (rows : List Row) → is_sorted key_cmp (by_key rows) ≡ true → total (booked k) rows ≡ cash_at k (closing_at rows k)
  booked_once k [] s = grind arith
  booked_once k (r ∷ rows) s = grind (arith, +ℤ_idl, +ℤ_idr, exact_keys k (row_key r), equal, find_below keys_total k (by_key rows), booked_once k rows)

  -- the corporation's key is no member's
  with_corporation : (k corp : Key) (closing part : ℤ) → corp.account ≡ corporation → corp.issue ≡ d.issue
      → cash_at k closing +ℤ cond (is_eq (key_cmp k corp)) part (pos 0) ≡ cond (same_issue k.issue d.issue) (cond (k.account == corporation) part (cash closing d.rate)) (pos 0)
  with_corporation k corp closing part account issue = grind (arith, same_key)

  -- what the payment of the members and that of the corporation book together
  pub paid_is : (rows : List Row) (k : Key) (sum : ℤ) → is_sorted key_cmp (by_key rows) ≡ true → sum ≡ total (member_cash d) rows
      → total (booked k) rows +ℤ cond (is_eq (key_cmp k (record { account = corporation; issue = d.issue }))) (neg_ℤ sum) (pos 0) ≡ paid d rows k
  paid_is rows k sum s is = rw (is, booked_once k rows s) (with_corporation k (record { account = corporation; issue = d.issue }) (closing_at rows k) _ refl refl)
