-- One accepted activity keeps positions and cents within their limits.
use Rattle.cns_terms.proofs.Facts.{◌≡◌, ℕ, ◌≤◌, ℤ, pos, ◌+ℤ◌, Bool, true, false, not, ◌&&◌, ◌==◌, cond, List, [], ◌∷◌, Option, Some, None, ◌⊎◌, inr, arith, IfSome, int_le, nat_lt, unsigned_abs, closings, day, Account, Activity, AllByRecursion, Cusip, Day, Entry, Execution, Journal, Notice, Pend, Posting, bought_in, cents_for, corporation, date, entries, execution_entries, is_beyond, is_exceeded, is_too_large, list_any, money, moved_in, moved_out, notice_at, open_day, option_map_or, pend_of, pending, position_limit, posting, shares_for, short, sold_in, total, trade_entries, IsWithin, is_due, places, rules, bytes_eq-Decides, nat_tests, position, zero_add}
use Rattle.cns_terms.proofs.BuyIns.{IsExecutable, executed_within}
use Rattle.cns_terms.proofs.ZeroSums.{is_at, none_at}
use Rattle.cns_terms.proofs.Everywhere.{each_found}
use Rattle.cns_terms.proofs.Magnitudes.{added, added-more, magnitude, total_small}
use Rattle.cns_terms.proofs.Sound.{IsSound, sound_nil, IsWhole, NoneHolds, all_fail}
use Rattle.cns_terms.proofs.Waiting.{booked_shares, both_cents, bought_added, settled, sold_added}

-- a position alone is within a member's limits
abbrev pub IsNear : ℤ → Type 0
IsNear q = unsigned_abs q ≤ position_limit

-- each member is within its limits
abbrev pub AreWithin : Day → Journal → Type 0
AreWithin opening J = (a : Account) (c : Cusip) → 1 ≤ a → IsWithin (position J a c) (bought_in (pending opening J) a c) (sold_in (pending opening J) a c)

-- then its position alone is
pub near : (q : ℤ) (b s : ℕ) → IsWithin q b s → IsNear q
near q b s h1 = grind arith

-- what is so at an entry's place is so at the account and the issue that it is of
so_there : (P : Account → Cusip → Type 0) (a : Account) (c : Cusip) (e : Entry) → is_at a c e ≡ true → P e.account e.issue → P a c
so_there P a c e h1 h2 = grind (arith, bytes_eq-Decides)

-- where no entry's place is beyond the limits, a member is within them at a place, or no entry is there
within_or_none : (T : Account → Cusip → ℤ) (B S : Account → Cusip → ℕ) (a : Account) (c : Cusip) (es : List Entry) → 1 ≤ a
    → list_any (λ e. nat_lt corporation e.account && is_beyond (T e.account e.issue) (B e.account e.issue) (S e.account e.issue)) es ≡ false
    → IsWithin (T a c) (B a c) (S a c) ⊎ AllByRecursion (λ e. is_at a c e ≡ false) es
within_or_none T B S a c [] m h = inr tt
within_or_none T B S a c (e ∷ es) m h = grind (arith, so_there (λ b d. (nat_lt corporation b && is_beyond (T b d) (B b d) (S b d)) ≡ false) a c e, within_or_none T B S a c es m)

-- ---- activities that are looked at as a whole

-- an activity that is not too large keeps each member within its limits, if it does where it has no place
within-large : (opening : Day) (J : Journal) (x : Activity) → is_too_large opening J x ≡ false
    → ((a : Account) (c : Cusip) → 1 ≤ a → AllByRecursion (λ e. is_at a c e ≡ false) (places opening J x) → IsWithin (position (posting opening J x ∷ J) a c) (bought_in (pending opening (posting opening J x ∷ J)) a c) (sold_in (pending opening (posting opening J x ∷ J)) a c))
    → AreWithin opening (posting opening J x ∷ J)
within-large opening J x fails elsewhere a c m =
    let ps = pending opening (posting opening J x ∷ J) in
    grind (arith, within_or_none (position (posting opening J x ∷ J)) (bought_in ps) (sold_in ps) a c (places opening J x) m fails, elsewhere a c m)

-- a trade that books elsewhere, now or later
trade_elsewhere : (b : Bool) (p : Pend) (ps : List Pend) (q : ℤ) (a : Account) (c : Cusip) → AllByRecursion (λ e. is_at a c e ≡ false) (trade_entries p) → IsWithin q (bought_in ps a c) (sold_in ps a c)
    → IsWithin (total (shares_for a c) (cond b (trade_entries p) []) +ℤ q) (bought_in (cond (not b) (p ∷ ps) ps) a c) (sold_in (cond (not b) (p ∷ ps) ps) a c)
trade_elsewhere b p ps q a c z w = grind (arith, none_at (λ e. e.shares) a c (trade_entries p) z)

-- the notice of an execution that is not refused
pub ready : (opening : Day) (J : Journal) (x : Execution) → NoneHolds (rules opening J (Activity.Execute x)) → IfSome (notice_at J x.notice) (IsExecutable J x)
ready opening J x h = grind (arith, all_fail (rules opening J (Activity.Execute x)) h)

-- an execution keeps each member within its limits
within-execute : (opening : Day) (J : Journal) (x : Execution) → IsWhole opening J → (o : Option Notice) → IfSome o (IsExecutable J x) → (a : Account) (c : Cusip) (b s : ℕ) → IsWithin (position J a c) b s
    → IsWithin (total (shares_for a c) (option_map_or (execution_entries J x) o []) +ℤ position J a c) b s
within-execute opening J x whole None h a c b s w = grind (arith, zero_add, w)
within-execute opening J x whole (Some k) h a c b s w =
    let sound = each_found IsSound (λ K. day K == k.given.day) [] (closings J) sound_nil whole.past in
    executed_within J x k a c b s h (omega (arith, sound.distinct a)) w

-- an activity that is not refused keeps each member within its limits
pub within-post : (opening : Day) (J : Journal) (x : Activity) → NoneHolds (rules opening J x) → IsWhole opening J → AreWithin opening J → AreWithin opening (posting opening J x ∷ J)
within-post opening J (Activity.Trade t) h whole w = within-large opening J (Activity.Trade t) (all_fail (rules opening J (Activity.Trade t)) h).1.1.1.1.1.1.0 (λ a c m z. trade_elsewhere (is_due (date opening J) (pend_of t)) (pend_of t) (pending opening J) (position J a c) a c z (w a c m))
within-post opening J (Activity.Deliver m) h whole w = λ a c n. grind (arith, nat_tests, so_there (λ b d. nat_lt (short (position J b d)) m.shares ≡ false) a c (moved_in m.member m), all_fail (rules opening J (Activity.Deliver m)) h, w a c n)
within-post opening J (Activity.Receive m) h whole w =
    let exceeded : Account → Cusip → Type 0 = λ b d. is_exceeded (position J b d) m.shares ≡ false in
    let short_now : Account → Cusip → Type 0 = λ b d. int_le (position J b d) (pos 0) ≡ false in
    λ a c n. grind (arith, nat_tests, so_there exceeded a c (moved_out m.member m), so_there short_now a c (moved_out m.member m), all_fail (rules opening J (Activity.Receive m)) h, w a c n)
within-post opening J (Activity.Split s) h whole w = within-large opening J (Activity.Split s) (all_fail (rules opening J (Activity.Split s)) h).1.1.0 (λ a c m z. grind (arith, zero_add, none_at (λ e. e.shares) a c (entries opening J (Activity.Split s)) z, w a c m))
within-post opening J (Activity.Exchange x) h whole w = within-large opening J (Activity.Exchange x) (all_fail (rules opening J (Activity.Exchange x)) h).1.1.1.0 (λ a c m z. grind (arith, zero_add, none_at (λ e. e.shares) a c (entries opening J (Activity.Exchange x)) z, w a c m))
within-post opening J (Activity.Execute x) h whole w = λ a c n. within-execute opening J x whole (notice_at J x.notice) (ready opening J x h) a c _ _ (w a c n)
within-post opening J (Activity.Close d) h whole w = grind (arith, all_fail, booked_shares, bought_added, settled, sold_added)
within-post opening J _ h whole w = λ a c m. grind (arith, zero_add, w a c m)

-- ---- cents

-- the cents of a posting's entries, whatever their signs
abbrev pub cents_of : Posting → ℕ
cents_of p = magnitude (λ e. e.cents) p.entries

-- the cents of trades that wait, on either side
abbrev pub waiting_cents : Day → Journal → ℕ
waiting_cents opening J = added both_cents (pending opening J)

-- the open day's cents are among the journal's
pub open_small : (J : Journal) → added cents_of (open_day J) ≤ added cents_of J
open_small [] = omega arith
open_small (p ∷ J) = grind (arith, open_small J)

-- the open day's cents at a place are among the journal's
pub money_few : (J : Journal) (a : Account) (c : Cusip) → unsigned_abs (money J a c) ≤ added cents_of J
money_few J a c =
    omega (
      arith,
      total_small (λ p. total (cents_for a c) p.entries) (open_day J),
      added-more (λ (p : Posting). unsigned_abs (total (cents_for a c) p.entries)) cents_of (open_day J) (λ p. grind (arith, total_small (cents_for a c) p.entries, added-more (λ e. unsigned_abs (cents_for a c e)) (λ e. unsigned_abs e.cents) p.entries)),
      open_small J,
    )
