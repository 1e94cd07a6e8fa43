-- Whom executions book for, and how much.
use Rattle.cns_terms.proofs.Facts.{◌≡◌, refl, ℕ, ◌+◌, ◌*◌, ◌≤◌, pos, ◌+ℤ◌, neg_ℤ, Bool, true, cond, ◌==◌, List, [], ◌∷◌, map, filter, find, sum_by, arith, IfSome, nat_lt, Account, AllByRecursion, Cusip, Entry, Execution, Fill, Journal, Liable, Member, Notice, Short, at_close, batch, batch_at, called, capacity, day, execution_entries, fill_entry, fills, fills_before, in_order, is_called, is_live, left_of, liable_of, long, members, originator_entry, remaining, room, same_issue, shares_for, short, short_of, shorts, stage, total, min-le_right, IsWithin, bytes_eq-Decides, eqb_sym, ints, nat_tests, position, same_order, sum_by-cons}
use Rattle.cns_terms.proofs.Accounts.{occurs}
use Rattle.cns_terms.proofs.Laid.{fills_laid, laid, cents_of_fills, shares_of_fills}
use Rattle.cns_terms.proofs.ZeroSums.{IsBalanced, balanced_in}
use Rattle.cns_terms.proofs.Everywhere.{each_filter, each_weaker}
use Rattle.cns_terms.proofs.Magnitudes.{added, magnitude, added-filter, added-map}

-- ---- what an execution that is not refused has met

-- what holds of each notice holds of the one that is found
pub each_named : {X : Type 0} (P : X → Type 0) (t : X → Bool) (xs : List X) → AllByRecursion P xs → IfSome (find t xs) P
each_named P t [] a = tt
each_named P t (x ∷ xs) a = grind (arith, each_named P t xs)

-- a notice is live, and as many shares remain of it and find room
pub record IsExecutable (J : Journal) (x : Execution) (k : Notice) : Type 0 where
  pub live : is_live (stage J k) ≡ true
  pub enough : x.shares ≤ remaining J k
  pub roomy : x.shares ≤ room J k

-- what remains of a notice is no more than its member is long
pub remains_long : (J : Journal) (k : Notice) → remaining J k ≤ long (position J k.given.member k.given.issue)
remains_long J k = grind arith

-- ---- the members that fills are for

-- how often a number is that of an element
abbrev pub times : {X : Type 0} → (X → ℕ) → ℕ → List X → ℕ
times f a xs = added (λ x. cond (a == f x) 1 0) xs

-- a member stands in a batch as often as among the members at most
pub batch_once : (J : Journal) (n : ℕ) (c : Cusip) (a : ℕ) → times (λ (l : Liable). l.member) a (batch J n c) ≤ occurs a (members (at_close J n))
batch_once J n c a =
    let K : Journal = at_close J n in
    let once : Short → ℕ = λ s. cond (a == s.member) 1 0 in
    let liable : Liable → ℕ = λ l. cond (a == l.member) 1 0 in
    omega (
      arith,
      added-map once (short_of K c) (members K),
      added-filter once (λ s. nat_lt 0 s.shares) (map (short_of K c) (members K)),
      same_order (times (λ (s : Short). s.member) a) (λ s n. once s + n) (λ s ss. refl) (λ s t n. omega arith) fills_before (shorts K c),
      added-filter once (is_called (shorts K c) (called K c)) (in_order fills_before (shorts K c)),
      added-map liable liable_of (filter (is_called (shorts K c) (called K c)) (in_order fills_before (shorts K c))),
      added-map liable (left_of J (day K) c) (batch_at K c),
    )

-- each of a batch stands in it
each_times : (ls : List Liable) → AllByRecursion (λ l. 1 ≤ times (λ l. l.member) l.member ls) ls
each_times [] = tt
each_times (l ∷ ls) = grind (arith, each_weaker, each_times ls)

-- what holds of each member of a batch holds of each that is filled
filled_each : (P : Member → Type 0) (each : Liable → ℕ) (n m from : ℕ) (ls : List Liable) → AllByRecursion (λ (l : Liable). P l.member) ls → AllByRecursion (λ (f : Fill). P f.member) (laid each n m from ls)
filled_each P each n m from [] a = tt
filled_each P each n m from (l ∷ ls) a = grind (arith, filled_each P each n m (from + each l) ls)

-- who is filled was a member at the close of the notice's day
pub fills_each : (J : Journal) (x : Execution) (k : Notice) → AllByRecursion (λ f. 1 ≤ occurs f.member (members (at_close J k.given.day))) (fills J x k)
fills_each J x k =
    let ls : List Liable = batch J k.given.day k.given.issue in
    let P : Member → Type 0 = λ a. 1 ≤ occurs a (members (at_close J k.given.day)) in
    let liable : AllByRecursion (λ l. P l.member) ls = each_weaker _ (λ l. P l.member) ls (λ l h. omega (arith, h, batch_once J k.given.day k.given.issue l.member)) (each_times ls) in
    rw (fills_laid (λ a. short (position J a k.given.issue)) x.shares x.money ls) (each_filter (λ f. P f.member) (λ f. nat_lt 0 f.shares) _ (filled_each P (capacity (λ a. short (position J a k.given.issue))) x.shares x.money 0 ls liable))

-- ---- how much a member is filled

-- the shares of fills for a member
abbrev pub filled_by : List Fill → Member → ℕ
filled_by fs a = added (λ f. cond (f.member == a) f.shares 0) fs

-- a member is filled up to its short, as often as it stands in the batch
filled_few : (short_now : Member → ℕ) (n m from : ℕ) (a : Member) (ls : List Liable) → filled_by (filter (λ f. nat_lt 0 f.shares) (laid (capacity short_now) n m from ls)) a ≤ times (λ l. l.member) a ls * short_now a
filled_few short_now n m from a [] = omega arith
filled_few short_now n m from a (l ∷ ls) =
    grind (arith, eqb_sym a l.member, min-le_right l.left (short_now l.member), min-le_right n (from + capacity short_now l), filled_few short_now n m (from + capacity short_now l) a ls)

-- what an execution gives a member is no more than it is short, where no number stands twice among the members
pub fill_few : (J : Journal) (x : Execution) (k : Notice) (a : Member) → occurs a (members (at_close J k.given.day)) ≤ 1 → filled_by (fills J x k) a ≤ short (position J a k.given.issue)
fill_few J x k a once = grind (arith, filled_few, batch_once, fills_laid)

-- ---- the shares and cents of an execution's entries

-- the shares of fills' entries for an account
fill_shares : (k : Notice) (a : Account) (c : Cusip) (b : Bool) → same_issue k.given.issue c ≡ b → (fs : List Fill) → total (shares_for a c) (map (fill_entry k) fs) ≡ cond b (pos (filled_by fs a)) (pos 0)
fill_shares k a c b is [] = grind arith
fill_shares k a c b is (f ∷ fs) = grind (arith, fill_shares k a c b is fs)

-- an execution brings a member's position no further from zero
pub executed_within : (J : Journal) (x : Execution) (k : Notice) (a : Account) (c : Cusip) (b s : ℕ) → IsExecutable J x k → occurs a (members (at_close J k.given.day)) ≤ 1 → IsWithin (position J a c) b s → IsWithin (total (shares_for a c) (execution_entries J x k) +ℤ position J a c) b s
executed_within J x k a c b s ready once w = grind (arith, ints, nat_tests, bytes_eq-Decides k.given.issue c, fill_shares k a c (same_issue k.given.issue c) refl (fills J x k), fill_few J x k a once, remains_long J k, ready.enough)

-- what fills' entries add up to: their shares, their cents, and the cents whatever their signs
fills_total : (k : Notice) (fs : List Fill) → (total (λ e. e.shares) (map (fill_entry k) fs) ≡ pos (sum_by (λ f. f.shares) fs)) × (total (λ e. e.cents) (map (fill_entry k) fs) ≡ neg_ℤ (pos (sum_by (λ f. f.cents) fs)))
    × (magnitude (λ e. e.cents) (map (fill_entry k) fs) ≡ sum_by (λ f. f.cents) fs)
fills_total k [] = grind arith
fills_total k (f ∷ fs) = grind (arith, ints, fills_total k fs, sum_by-cons (λ (f : Fill). f.shares) f fs, sum_by-cons (λ (f : Fill). f.cents) f fs)

-- the entries of an execution add up to zero in each issue
pub execution_balanced : (J : Journal) (x : Execution) (k : Notice) → 1 ≤ x.shares → IsExecutable J x k → IsBalanced (execution_entries J x k)
execution_balanced J x k some ready =
    let paid = cents_of_fills (λ a. short (position J a k.given.issue)) x.shares x.money (batch J k.given.day k.given.issue) some ready.roomy in
    balanced_in (originator_entry x k) (fill_entry k) (fills J x k) (λ f. refl) (grind (arith, ints, shares_of_fills, fills_total)) (omega (arith, ints, paid, (fills_total k (fills J x k)).1))

-- an execution's entries book its money twice
pub execution_cents : (J : Journal) (x : Execution) (k : Notice) → 1 ≤ x.shares → IsExecutable J x k → magnitude (λ (e : Entry). e.cents) (execution_entries J x k) ≡ x.money + x.money
execution_cents J x k h1 h2 = omega (arith, ints, cents_of_fills (λ a. short (position J a k.given.issue)) x.shares x.money (batch J k.given.day k.given.issue) h1 h2.roomy, (fills_total k (fills J x k)).2)
