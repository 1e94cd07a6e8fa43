-- What moved a position, of all causes together.
-- For `moves_add_up` of laws.rt.
use Rattle.cns_account.proofs.Common.{◌≡◌, ℕ, ◌+◌, ◌^◌, ◌<◌, ◌≤◌, ℤ, pos, ◌+ℤ◌, ◌-ℤ◌, neg_ℤ, Bool, true, false, ◌&&◌, cond, eqb, Option, Some, None, arith, bytes_eq, unsigned_abs, FitsSigned, Width, int_wrap, option_map_or, cases_lt, SFits-int_wrap, fits_signed_from_abs, int_wrap-add_right, int_wrap-add_same, int_wrap_fits, ints, hbits, Day, magnitude, pend_of, same_key, total, trade_entries, Activity, Trade, Taken, Entry, Key, is_movement, Booking, of_causes, of_cause, settled_by, unmoved, with_entry, with_more, with_taken, with_trade, Moved, Moves, List, [], reverse, ◌∷◌, fold-append, fold, reverse_onto, Command, buyer_entry, seller_entry}

-- whether an activity moves by a number that a command names
abbrev pub is_named : Activity → Bool
is_named (Activity.Deliver m) = true
is_named (Activity.Receive m) = true
is_named (Activity.Execute x) = true
is_named _ = false

-- ---- what wraps

-- no farther from zero
wrap_few : (w : Width) (z : ℤ) → unsigned_abs (int_wrap w z) ≤ unsigned_abs z
wrap_few w z = let e = SFits-int_wrap w z in let f = fits_signed_from_abs w z in let g = int_wrap_fits w z in let h = cases_lt (unsigned_abs z) (2 ^ hbits w) in grind arith

-- what is added to one of some numbers is added to their sum
sum_more : (w : Width) (x y d old new v : ℤ) → d ≡ int_wrap w (x +ℤ y) → new +ℤ x ≡ old +ℤ d → int_wrap w old ≡ int_wrap w v → int_wrap w new ≡ int_wrap w (v +ℤ y)
sum_more w x y d old new v is are same =
    let both : ((old -ℤ x) +ℤ (x +ℤ y) ≡ old +ℤ y) × (new ≡ (old -ℤ x) +ℤ d) = (omega (arith, ints), omega (arith, ints)) in
    grind (arith, int_wrap-add_right, int_wrap-add_same)

-- ---- shares or cents

-- those of what moved a position, as they are picked
abbrev pub of_moved : (ℤ → ℤ → ℤ) → Moved → ℤ
of_moved pick m = pick m.shares m.cents

abbrev pub of_entry : (ℤ → ℤ → ℤ) → Entry → ℤ
of_entry pick e = pick e.shares e.cents

-- at a place
abbrev pub entry_at : (ℤ → ℤ → ℤ) → Key → Entry → ℤ
entry_at pick k e = cond (eqb e.account k.account && bytes_eq e.issue k.issue) (of_entry pick e) (pos 0)

-- how far all causes but splits and exchanges can take a position
abbrev pub size_of : (ℤ → ℤ → ℤ) → Moves → ℕ
size_of pick m = unsigned_abs (of_moved pick m.trades) + (unsigned_abs (of_moved pick m.delivered) + (unsigned_abs (of_moved pick m.received) + unsigned_abs (of_moved pick m.buy_ins)))

-- all causes come to a number, as much of it as fits, and all but splits and exchanges to no more than another
pub record Comes (w : Width) (pick : ℤ → ℤ → ℤ) (m : Moves) (v : ℤ) (n : ℕ) : Type 0 where
  pub sum : int_wrap w (of_causes (of_moved pick) m) ≡ int_wrap w v
  pub few : size_of pick m ≤ n
  pub fits : FitsSigned w (of_moved pick m.actions)

-- which are as many bits wide
pub record IsPicked (w : Width) (pick : ℤ → ℤ → ℤ) : Type 0 where
  pub none : pick (pos 0) (pos 0) ≡ pos 0
  pub more : (m : Moved) (s c : ℤ) → of_moved pick (with_more m s c) ≡ int_wrap w (of_moved pick m +ℤ pick s c)

module _ {w : Width} {pick : ℤ → ℤ → ℤ} (picked : IsPicked w pick) where
  pub same : (m : Moves) (v v' : ℤ) (n n' : ℕ) → Comes w pick m v n → v ≡ v' → n ≤ n' → Comes w pick m v' n'
  same m v v' n n' c is le = grind arith

  few_more : (x : Moved) (a b : ℤ) → unsigned_abs (of_moved pick (with_more x a b)) ≤ unsigned_abs (of_moved pick x) + unsigned_abs (pick a b)
  few_more x a b = rw (picked.more x a b) (let e = wrap_few w (of_moved pick x +ℤ pick a b) in omega (arith, ints))

  -- one cause more
  part_more : (m m' : Moves) (x : Moved) (a b v : ℤ) (n u : ℕ) → Comes w pick m v n → of_causes (of_moved pick) m' +ℤ of_moved pick x ≡ of_causes (of_moved pick) m +ℤ of_moved pick (with_more x a b)
      → size_of pick m' ≤ size_of pick m + u → FitsSigned w (of_moved pick m'.actions) → Comes w pick m' (v +ℤ pick a b) (n + u)
  part_more m m' x a b v n u c all size fits = record { sum = sum_more w (of_moved pick x) (pick a b) (of_moved pick (with_more x a b)) _ _ v (picked.more x a b) all c.sum; few = omega (arith, size, c.few); fits = fits }

  entry_more : (k : Key) (m : Moves) (v : ℤ) (n : ℕ) (e : Entry) → Comes w pick m v n → Comes w pick (with_entry k m e) (v +ℤ entry_at pick k e) (n + unsigned_abs (of_entry pick e))
  entry_more k m v n e c =
      let more = part_more m (record m { trades = with_more m.trades e.shares e.cents }) m.trades e.shares e.cents v n (unsigned_abs (of_entry pick e)) c (omega (arith, ints)) (omega (arith, few_more m.trades e.shares e.cents)) c.fits in
      rw (same_key (record { account = e.account; issue = e.issue }) k) (grind (arith, ints, more))

  -- a trade of the history, which has no more than some number
  pub taken_last : (k : Key) (before : Option Day) (day : Day) (H : List Taken) (t : Taken) (v : ℤ) (n few : ℕ) → Comes w pick (fold (with_taken before day k) unmoved (reverse H)) v n
      → option_map_or (λ x. magnitude (of_entry pick) (trade_entries (pend_of x))) (settled_by before day t) 0 ≤ few
      → Comes w pick (fold (with_taken before day k) unmoved (reverse (t ∷ H))) (option_map_or (λ x. total (entry_at pick k) (trade_entries (pend_of x))) (settled_by before day t) (pos 0) +ℤ v) (n + few)
  taken_last k before day H t v n few c le = rw (reverse_onto H t [], fold-append (with_taken before day k) unmoved (reverse H) (t ∷ [])) (by (settled_by before day t) _ c le)
    where
      by : (o : Option Trade) (m : Moves) → Comes w pick m v n → option_map_or (λ x. magnitude (of_entry pick) (trade_entries (pend_of x))) o 0 ≤ few
          → Comes w pick (option_map_or (with_trade k m) o m) (option_map_or (λ x. total (entry_at pick k) (trade_entries (pend_of x))) o (pos 0) +ℤ v) (n + few)
      by None m c le = grind (arith, ints)
      by (Some x) m c le = same _ _ (total (entry_at pick k) (trade_entries (pend_of x)) +ℤ v) _ (n + few) (entry_more k _ _ _ (seller_entry (pend_of x)) (entry_more k m v n (buyer_entry (pend_of x)) c)) (omega (arith, ints)) (omega arith)

  action_more : (m : Moves) (v : ℤ) (n : ℕ) (b : Booking) → Comes w pick m v n → Comes w pick (record m { actions = with_more m.actions b.shares b.cents }) (v +ℤ pick b.shares b.cents) (n + 0)
  action_more m v n b c = part_more m (record m { actions = with_more m.actions b.shares b.cents }) m.actions b.shares b.cents v n 0 c (omega (arith, ints)) (omega arith) (rw (picked.more m.actions b.shares b.cents) (SFits-int_wrap w _))

  -- a booking
  pub cause_more : (m : Moves) (v : ℤ) (n : ℕ) (b : Booking) (x : Activity) → Comes w pick m v n
      → Comes w pick (of_cause m b x) (v +ℤ cond (is_movement (Command.Activity x)) (pick b.shares b.cents) (pos 0)) (n + cond (is_named x) (unsigned_abs (pick b.shares b.cents)) 0)
  cause_more m v n b (Activity.Deliver x) c = part_more m (record m { delivered = with_more m.delivered b.shares b.cents }) m.delivered b.shares b.cents v n _ c (omega (arith, ints)) (omega (arith, few_more m.delivered b.shares b.cents)) c.fits
  cause_more m v n b (Activity.Receive x) c = part_more m (record m { received = with_more m.received b.shares b.cents }) m.received b.shares b.cents v n _ c (omega (arith, ints)) (omega (arith, few_more m.received b.shares b.cents)) c.fits
  cause_more m v n b (Activity.Execute x) c = part_more m (record m { buy_ins = with_more m.buy_ins b.shares b.cents }) m.buy_ins b.shares b.cents v n _ c (omega (arith, ints)) (omega (arith, few_more m.buy_ins b.shares b.cents)) c.fits
  cause_more m v n b (Activity.Split x) c = action_more m v n b c
  cause_more m v n b (Activity.Exchange x) c = action_more m v n b c
  cause_more m v n b x c = same m v (v +ℤ pos 0) n (n + 0) c (omega (arith, ints)) (omega arith)

-- the sums are exact
exact_all : (w : Width) (all acts others q : ℤ) → int_wrap w all ≡ int_wrap w q → FitsSigned w acts → all ≡ others +ℤ acts → unsigned_abs q + unsigned_abs others < 2 ^ hbits w → all ≡ q
exact_all w all acts others q c fits sum small =
    grind (arith, ints, int_wrap_fits w acts fits, int_wrap_fits w (q -ℤ others) (fits_signed_from_abs w _ (omega (arith, ints))), int_wrap-add_same w all q (neg_ℤ others) c)

pub exact : {w : Width} {pick : ℤ → ℤ → ℤ} (m : Moves) (q : ℤ) (n : ℕ) → Comes w pick m q n → unsigned_abs q + n < 2 ^ hbits w → of_causes (of_moved pick) m ≡ q
exact {w} {pick} m q n c small =
    let g = of_moved pick in
    exact_all w _ (g m.actions) (g m.trades +ℤ (g m.delivered +ℤ (g m.received +ℤ g m.buy_ins))) q c.sum c.fits (omega (arith, ints)) (omega (arith, ints, c.few))
