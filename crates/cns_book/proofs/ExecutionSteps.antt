-- What an accepted execution fills.
-- For `make_fills` and `execute` of parts/execution.rt, clauses fills, booked and step.
use Rattle.cns_book.proofs.Common.{◌≡◌, ◌∙◌, ap, sym, subst, ℕ, ◌≤◌, List, [], ◌∷◌, length, Ok, Option, Some, Activity, CanBeExecuted, Contents, Execution, Fill, Follows, HasRoom, IsAccepted, IsExecutable, Key, Liables, Notice, Noticed, Rows, batch_on, books, capped_short, charged_on, entries_by, fills, fills_by, fills_of, holding_at, journal, notice_at, option_map_or, room_of, with_notice, Given, Steps, ◌+◌, false, filter, sum_by, arith, ◌==◌, nat_lt, AllByRecursion, AreApart, CanBeFilled, IsInRange, Liable, Member, batch, capacity, cents_of_fills, each_both, each_filter, each_weaker, filled_at, fills_laid, laid, nat_tests, originator_at, shares_of_fills, short, sum_by-cons, min-le_right, position, IsWithin, Command, Reply, kept_found, None, refl}
use Rattle.cns_notices.specs.Noticed.{executes}
use Rattle.cns_book.proofs.ExecutionRefusals.{AreShort, execute_follows, fills_same, room_same, members_of, sound_at}
use Rattle.cns_book.proofs.PartsWithin.{rows_within}
use Rattle.cns_terms.proofs.BuyIns.{batch_once, remains_long, times}

module _ (now : Member → ℕ) (n m : ℕ) where
  -- the fills of members whose stretches begin at a share
  abbrev filled_from : ℕ → List Liable → List Fill
  filled_from from ls = filter (λ f. nat_lt 0 f.shares) (laid (capacity now) n m from ls)

  short_each : (from : ℕ) (ls : List Liable) → AllByRecursion (λ f. 1 ≤ now f.member) (filled_from from ls)
  short_each from [] = tt
  short_each from (l ∷ ls) = grind (arith, nat_tests, min-le_right n (from + capacity now l), short_each (from + capacity now l) ls)

  -- members other than those of the batch's rest
  others_each : (a : Member) (from : ℕ) (ls : List Liable) → times (λ (l : Liable). l.member) a ls ≤ 0 → AllByRecursion (λ f. (f.member == a) ≡ false) (laid (capacity now) n m from ls)
  others_each a from [] h = tt
  others_each a from (l ∷ ls) h = grind (arith, others_each a (from + capacity now l) ls (omega (arith, h)))

  apart_each : (from : ℕ) (ls : List Liable) → ((a : Member) → times (λ (l : Liable). l.member) a ls ≤ 1) → AreApart (filled_from from ls)
  apart_each from [] once = tt
  apart_each from (l ∷ ls) once = grind (arith, each_filter (λ (f : Fill). (f.member == l.member) ≡ false) (λ f. nat_lt 0 f.shares) (laid (capacity now) n m (from + capacity now l) ls) (others_each l.member (from + capacity now l) ls (grind (arith, once l.member))), apart_each (from + capacity now l) ls (λ a. omega (arith, once a)))

each_few : (h : Fill → ℕ) (fs : List Fill) (n : ℕ) → sum_by h fs ≤ n → AllByRecursion (λ f. h f ≤ n) fs
each_few h [] n le = tt
each_few h (f ∷ fs) n le = grind (arith, sum_by-cons h f fs, each_few h fs n)

-- ---- all fills can be booked

pub can_execute : (L : List Activity) (s : Contents) (x : Execution) (k : Notice) → Follows L s → ((key : Key) → IsWithin (holding_at s.rows key)) → IsInRange (Activity.Execute x) → IsExecutable (journal s.opening L) x k → CanBeExecuted s.rows k.given (fills (journal s.opening L) x k)
can_execute L s x k f within range can =
    let J = journal s.opening L in let now : Member → ℕ = λ a. short (position J a k.given.issue) in
    let ls = batch J k.given.day k.given.issue in let fs = fills J x k in
    let laid_is : fs ≡ filled_from now x.shares x.money 0 ls = fills_laid now x.shares x.money ls in
    record {
      bought = record { within = within (originator_at k.given); long = grind (arith, f.rows (originator_at k.given), remains_long J k, can.enough, range.0) };
      filled = each_weaker (λ g. (1 ≤ now g.member) × ((g.shares ≤ x.shares) × (g.cents ≤ x.money))) (λ g. CanBeFilled (holding_at s.rows (filled_at k.given g)) g) fs
          (λ g h. record { within = within (filled_at k.given g); short = grind (arith, f.rows (filled_at k.given g), h.0); shares = omega (arith, h.1.0, range.1); cents = omega (arith, h.1.1, range.2) })
          (each_both (λ g. 1 ≤ now g.member) (λ g. (g.shares ≤ x.shares) × (g.cents ≤ x.money)) fs (subst (λ gs. AllByRecursion (λ g. 1 ≤ now g.member) gs) (sym laid_is) (short_each now x.shares x.money 0 ls))
          (each_both (λ g. g.shares ≤ x.shares) (λ g. g.cents ≤ x.money) fs (each_few (λ g. g.shares) fs x.shares (omega (arith, shares_of_fills now x.shares x.money ls can.roomy))) (each_few (λ g. g.cents) fs x.money (omega (arith, cents_of_fills now x.shares x.money ls range.0 can.roomy)))));
      apart = subst AreApart (sym laid_is) (apart_each now x.shares x.money 0 ls (λ a. omega (arith, batch_once J k.given.day k.given.issue a, (sound_at s.opening L k.given.day f.reached).distinct a)));
    }

-- the notice of an accepted execution
pub record IsOfNotice (L : List Activity) (s : Contents) (x : Execution) (g : Given) (k : Notice) : Type 0 where
  pub found : notice_at (journal s.opening L) x.notice ≡ Some k
  pub given : g ≡ k.given
  pub can : IsExecutable (journal s.opening L) x k

pub of_notice : (L : List Activity) (s : Contents) (x : Execution) (g : Given) → Follows L s → IsAccepted s x g → (k : Notice) × IsOfNotice L s x g k
of_notice L s x g f a = elim (notice_at (journal s.opening L) x.notice) as (λ o. notice_at (journal s.opening L) x.notice ≡ o → (k : Notice) × IsOfNotice L s x g k) [
  | Some k ↦ λ e. (k, grind (arith, f.notices, kept_found (journal s.opening L) x.notice a.named.0, a.there, a.accepted L f))
  | None ↦ λ e. grind (arith, f.notices, kept_found (journal s.opening L) x.notice a.named.0, a.there)
] refl

-- its batch has room for it
pub accepted_room : (s : Contents) (x : Execution) (g : Given) (b : Liables) → HasRoom s → IsAccepted s x g → batch_on s.batches g.day g.issue ≡ Some b → x.shares ≤ room_of (capped_short s.rows g.issue) b.members
accepted_room s x g b r a e = let n = of_notice r.activities s x g r.follows a in grind (arith, room_same r.activities s n.0 r.follows (rows_within s r).shares)

-- what it fills is what the definitions say
pub accepted_fills : (L : List Activity) (s : Contents) (x : Execution) (g : Given) (b : Liables) → Follows L s → AreShort s → IsAccepted s x g → batch_on s.batches g.day g.issue ≡ Some b → fills_of (capped_short s.rows g.issue) x.shares x.money b.members ≡ fills_by (journal s.opening L) x
accepted_fills L s x g b f within a e =
    let n = of_notice L s x g f a in
    ap (λ (o : Option Liables). fills_of (capped_short s.rows g.issue) x.shares x.money (members_of o)) (sym e)
    ∙ ap (λ (y : Given). fills_of (capped_short s.rows y.issue) x.shares x.money (members_of (batch_on s.batches y.day y.issue))) n.1.given
    ∙ fills_same L s x n.0 f within
    ∙ sym (ap (λ o. option_map_or (fills (journal s.opening L) x) o []) n.1.found)

-- and can be booked
pub accepted_can : (s : Contents) (x : Execution) (g : Given) (b : Liables) (fs : List Fill) → HasRoom s → IsAccepted s x g → batch_on s.batches g.day g.issue ≡ Some b → fs ≡ fills_of (capped_short s.rows g.issue) x.shares x.money b.members → CanBeExecuted s.rows g fs
accepted_can s x g b fs r a e is =
    let n = of_notice r.activities s x g r.follows a in
    grind (arith, accepted_fills r.activities s x g b r.follows (rows_within s r).shares a e, can_execute r.activities s x n.0 r.follows (λ k. record { shares = (rows_within s r).shares k; cents = (rows_within s r).cents k }) a.range n.1.can)

-- the reply is the machine's, and so is the step
pub accepted_steps : (L : List Activity) (s : Contents) (x : Execution) (g : Given) (fs : List Fill) (n : ℕ) (rows : Rows) (notices : List Noticed) (batches : List (List Liables)) (day : ℕ) (gs : List Fill) → Follows L s → IsAccepted s x g → fs ≡ fills_by (journal s.opening L) x → n ≡ length fs
    → ((k : Key) → holding_at rows k ≡ books (entries_by x g fs) k (holding_at s.rows k))
    → notices ≡ with_notice (executes x.shares) x.notice s.notices
    → batches ≡ charged_on s.batches day g.issue gs → day ≡ g.day → gs ≡ fs
    → Steps L (Command.Activity (Activity.Execute x)) (Ok (Reply.Executed n)) (record s { rows = rows; notices = notices; batches = batches })
accepted_steps L s x g fs n rows notices batches day gs f a is count booked ns bs days charges =
    let one = of_notice L s x g f a in
    grind (arith, a.accepted L f, execute_follows L s x one.0 rows f a.range (a.accepted L f) a.named.0 one.1.found, booked)
