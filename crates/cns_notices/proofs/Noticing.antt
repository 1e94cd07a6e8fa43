-- What each activity makes of the notices, in the words of the list.
-- For `count_by` of closed_days.rt in cns_book, `give_notice`, `withdraw_refusal` and `notice_refusal` of parts/notice.rt in cns_book and others.
use Rattle.cns_notices.proofs.Common.{◌≡◌, ◌∙◌, sym, option_map, refl, ℕ, suc, ◌+◌, ◌-◌, ◌≤◌, Bool, cond, ◌&&◌, ◌==◌, List, [], ◌∷◌, ◌++◌, length, map, map-id, find, Some, arith, slice_get, bytes_eq, Cusip, Ended, Expired, Journal, Live, Movement, Notice, Noticed, Posting, Stage, Withdrawn, changed_at, day, ended, eqb_sym, execution, expired, first_reached, is_live, kept_notices, map-append, nat_list_eq_equiv, nat_tests, notice, notice_at, notices, receipt, receives, with_notice, slice_get-map, Given, stage_by, new_notice, kept, executes}
use Rattle.cns_notices.proofs.Items.{one_changed, same_items}
use Rattle.cns_terms.specs.declared.command.Activity.{Activity}
use Rattle.cns_notices.proofs.NoticeSteps.{AreNumberedFrom, numbered, untouched}

-- ---- one notice

-- a kept notice, by its parts
abbrev built : Given → Stage → ℕ → ℕ → Noticed
built g s r e = record { given = g; stage = s; received = r; executed = e }

-- what an activity of a day makes of the notice with a number
abbrev touched : Activity → ℕ → ℕ → Noticed → Noticed
touched x today k y =
    let n : Notice = record { number = k; given = y.given } in
    built y.given (first_reached y.stage (stage_by n today x)) (cond (is_live y.stage) (receipt n x) 0 + y.received) (execution n x + y.executed)

-- ---- by number

-- two changes that agree at the place
pub changed_same : (f g : Noticed → Noticed) (i : ℕ) (xs : List Noticed) → ((x : Noticed) → slice_get xs i ≡ Some x → f x ≡ g x) → changed_at f i xs ≡ changed_at g i xs
changed_same f g i xs h = same_items _ _ (λ j. grind (arith, nat_tests, one_changed f i xs j, one_changed g i xs j, h))

-- the notice with a number stands at the place before it
found_at : (j k : ℕ) (ns : List Notice) → AreNumberedFrom j ns → j ≤ k → find (λ n. n.number == k) ns ≡ slice_get ns (k - j)
found_at j k [] a le = refl
found_at j k (n ∷ ns) a le = grind (arith, nat_tests, found_at (suc j) k ns a.1)

pub notice_found : (J : Journal) (k : ℕ) → 1 ≤ k → notice_at J k ≡ slice_get (notices J) (k - 1)
notice_found J k h = found_at 1 k (notices J) (numbered J) h

-- ---- all notices, after each activity

at_its_number : (f : Noticed → Noticed) (k : ℕ) (xs : List Noticed) (i : ℕ) → 1 ≤ k → option_map (λ x. cond (k == i + 1) (f x) x) (slice_get xs i) ≡ slice_get (with_notice f k xs) i
at_its_number f k xs i le = grind (arith, nat_tests, one_changed f (k - 1) xs i)

module _ (J : Journal) (p : Posting) where
  -- each as its number asks for
  by_number : (f : ℕ → Noticed → Noticed) → ((k : ℕ) (y : Noticed) → touched p.activity (day J) k y ≡ f k y) → (j : ℕ) (ns : List Notice) → AreNumberedFrom j ns → length ns + j ≤ length (notices J) + 1
      → (i : ℕ) → slice_get (map (kept (p ∷ J)) ns) i ≡ option_map (f (i + j)) (slice_get (map (kept J) ns) i)
  by_number f h j [] a le i = refl
  by_number f h j (n ∷ ns) a le i = grind (arith, nat_tests, h j (kept J n), by_number f h (suc j) ns a.1 (omega (arith, le)) (i - 1))

  -- one that changes each by itself
  pub changed_each : (f : Noticed → Noticed) → ((k : ℕ) (y : Noticed) → touched p.activity (day J) k y ≡ f y) → map (kept (p ∷ J)) (notices J) ≡ map f (kept_notices J)
  changed_each f h = same_items _ _ (λ i. by_number (λ k. f) h 1 (notices J) (numbered J) (omega arith) i ∙ sym (slice_get-map f (kept_notices J) i))

  -- one that changes the notice with a number
  pub changed_one : (f : Noticed → Noticed) (k : ℕ) → 1 ≤ k → ((j : ℕ) (y : Noticed) → touched p.activity (day J) j y ≡ cond (k == j) (f y) y) → map (kept (p ∷ J)) (notices J) ≡ with_notice f k (kept_notices J)
  changed_one f k le h = same_items _ _ (λ i. by_number (λ j y. cond (k == j) (f y) y) h 1 (notices J) (numbered J) (omega arith) i ∙ at_its_number f k (kept_notices J) i le)

-- a split, or an exchange of the issue
pub ended_by : (c : Cusip) (y : Noticed) → built y.given (first_reached y.stage (cond (bytes_eq c y.given.issue) Ended Live)) (cond (is_live y.stage) 0 0 + y.received) (0 + y.executed) ≡ ended c y
ended_by c y = grind arith

-- a close of the day with the number
pub expired_by : (today : ℕ) (y : Noticed) → built y.given (first_reached y.stage (cond (today == y.given.day + 2) Expired Live)) (cond (is_live y.stage) 0 0 + y.received) (0 + y.executed) ≡ expired today y
expired_by today y = grind (arith, nat_tests)

-- a receipt
pub received_by : (m : Movement) (y : Noticed) → built y.given (first_reached y.stage Live) (cond (is_live y.stage) (cond ((m.member == y.given.member) && bytes_eq m.issue y.given.issue) m.shares 0) 0 + y.received) (0 + y.executed) ≡ receives m.member m.issue m.shares y
received_by m y = grind (arith, nat_tests, eqb_sym, nat_list_eq_equiv.symm m.issue y.given.issue)

-- a withdrawal, whatever the stage was
abbrev pub taken_back : Noticed → Noticed
taken_back y = built y.given (first_reached y.stage Withdrawn) y.received y.executed

pub withdrawn_by : (b : Bool) (y : Noticed) → built y.given (first_reached y.stage (cond b Withdrawn Live)) (cond (is_live y.stage) 0 0 + y.received) (0 + y.executed) ≡ cond b (taken_back y) y
withdrawn_by b y = grind arith

-- an execution
pub executed_by : (b : Bool) (n : ℕ) (y : Noticed) → built y.given (first_reached y.stage Live) (cond (is_live y.stage) 0 0 + y.received) (cond b n 0 + y.executed) ≡ cond b (executes n y) y
executed_by b n y = grind arith

-- a notice more
pub notice_more : (p : Posting) (J : Journal) (m : Movement) → ((k : ℕ) (y : Noticed) → touched p.activity (day J) k y ≡ built y.given (first_reached y.stage Live) (cond (is_live y.stage) 0 0 + y.received) (0 + y.executed))
    → map (kept (p ∷ J)) (notices J ++ notice (length (notices J) + 1) (day J) m ∷ []) ≡ kept_notices J ++ new_notice (record { member = m.member; issue = m.issue; shares = m.shares; day = day J }) ∷ []
notice_more p J m h = grind (arith, untouched J, map-append, changed_each J p (λ y. y) (λ k y. grind (arith, h k y)), map-id)
