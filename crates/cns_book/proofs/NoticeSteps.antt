-- Notices and withdrawals: what they are refused for, and what they leave.
-- For `give_notice`, `withdraw_refusal`, `notice_refusal` and `withdraw` of parts/notice.rt, clauses refusal and step.
use Rattle.cns_book.proofs.Common.{◌≡◌, ◌∙◌, sym, refl, ℕ, zero, suc, ◌+◌, ◌-◌, ◌≤◌, ℤ, pos, true, false, cond, List, [], ◌∷◌, ◌++◌, length, map, Some, None, arith, ◌==◌, find, int_le, option_map, same_Some, slice_get_past, Activity, AlreadyNoticed, Contents, Follows, FollowsNotices, IsInRange, Movement, NotLive, Notice, Noticed, Refusal, Stage, changed_each, changed_one, first_refusal, holding_at, is_exceeded, is_listed, is_live, is_member, is_retired, issue_rules, journal, kept_found, length-map, live_number, notice_at, notices, posting, refusal, remaining_by, with_notice, Given, position, AreNumberedFrom, numbered, at_stage, new_notice, receives, live_same, changed_same, notice_found, notice_more, received_by, taken_back, withdrawn_by, member_position, notice_listed, Command, kept_at}
use Rattle.cns_terms.specs.declared.buy_in.Stage.TheVariants.{Live, Withdrawn}
use Rattle.cns_book.proofs.RetransmittalCalls.{remaining_same}
use Rattle.cns_book.proofs.EffectEntries.{books_none}
use Rattle.cns_book.proofs.TradingSteps.{booked_by}

-- the notices after a receipt
pub receipt_counted : {s : Contents} (L : List Activity) (m : Movement) → Follows L s → FollowsNotices (journal s.opening (Activity.Receive m ∷ L)) (record s { notices = map (receives m.member m.issue m.shares) s.notices })
receipt_counted {s} L m f = grind (arith, changed_each, received_by)

-- the notices after one more
pub notice_given : (L : List Activity) (s : Contents) (m : Movement) → Follows L s → IsInRange (Activity.Notice m) → refusal s.opening (journal s.opening L) (Command.Activity (Activity.Notice m)) ≡ None
    → Follows (Activity.Notice m ∷ L) (record s { notices = s.notices ++ new_notice (record { member = m.member; issue = m.issue; shares = m.shares; day = s.closes + 1 }) ∷ [] })
notice_given L s m f range none =
    booked_by L s (Activity.Notice m) s.trades _ s.rows f range none refl refl refl refl f.references f.pending (grind (arith, f.notices, f.clock.closes, notice_more (posting s.opening (journal s.opening L) (Activity.Notice m)) (journal s.opening L) m (λ k y. refl))) (λ k. sym (books_none k (holding_at s.rows k)))

-- a notice in an issue that is not listed or retired is refused for that
pub notice_issue : (L : List Activity) (s : Contents) (m : Movement) (q : ℤ) (r : Refusal) → Some q ≡ member_position (journal s.opening L) m.member m.issue
    → first_refusal (issue_rules (is_listed (journal s.opening L) m.issue) (is_retired (journal s.opening L) m.issue)) ≡ Some r → refusal s.opening (journal s.opening L) (Command.Activity (Activity.Notice m)) ≡ Some r
notice_issue L s m q r member h = grind arith

-- what a notice is refused for, where it is of a long member's shares in a current issue
pub notice_answer : (L : List Activity) (s : Contents) (m : Movement) (q : ℤ) → Follows L s → Some q ≡ cond (is_member (journal s.opening L) m.member) (Some (position (journal s.opening L) m.member m.issue)) None → is_listed (journal s.opening L) m.issue ≡ true → is_retired (journal s.opening L) m.issue ≡ false
    → is_exceeded q m.shares ≡ false → int_le q (pos 0) ≡ false → refusal s.opening (journal s.opening L) (Command.Activity (Activity.Notice m)) ≡ option_map AlreadyNoticed (live_number s.notices m.member m.issue)
notice_answer L s m q f member listed current enough long = grind (arith, live_same)

none_zero : (ns : List Notice) (j : ℕ) → AreNumberedFrom (suc j) ns → find (λ n. n.number == 0) ns ≡ None
none_zero [] j h = refl
none_zero (n ∷ ns) j h = grind (arith, none_zero ns (suc j) h.1)

-- where none has the number, none is found
pub notice_missing : (L : List Activity) (s : Contents) (k : ℕ) → Follows L s → ((1 ≤ k) × (k ≤ length s.notices) → ⊥) → notice_at (journal s.opening L) k ≡ None
notice_missing L s zero f never = none_zero (notices (journal s.opening L)) 0 (numbered (journal s.opening L))
notice_missing L s (suc k) f never = notice_found (journal s.opening L) (suc k) (omega arith) ∙ slice_get_past (notices (journal s.opening L)) (suc k - 1) (grind (arith, f.notices, length-map))

-- by its stage
pub withdraw_by_stage : (L : List Activity) (s : Contents) (k : ℕ) (st : Stage) → Follows L s → 1 ≤ k → Some st ≡ option_map (λ (x : Noticed). x.stage) (kept_at s.notices k) → refusal s.opening (journal s.opening L) (Command.Activity (Activity.Withdraw k)) ≡ cond (is_live st) None (Some NotLive)
withdraw_by_stage L s k st f le is = let kept = f.notices in grind (arith, kept_found, kept)

-- the notices after a withdrawal
pub notice_withdrawn : (L : List Activity) (s : Contents) (k : ℕ) → Follows L s → refusal s.opening (journal s.opening L) (Command.Activity (Activity.Withdraw k)) ≡ None → 1 ≤ k → Some Live ≡ option_map (λ (x : Noticed). x.stage) (kept_at s.notices k)
    → Follows (Activity.Withdraw k ∷ L) (record s { notices = with_notice (at_stage Withdrawn) k s.notices })
notice_withdrawn L s k f none le live =
    booked_by L s (Activity.Withdraw k) s.trades _ s.rows f tt none refl refl refl refl f.references f.pending (grind (arith, f.notices, changed_same taken_back (at_stage Withdrawn) (k - 1) s.notices (λ x e. grind (arith, same_Some)), changed_one (journal s.opening L) (posting s.opening (journal s.opening L) (Activity.Withdraw k)) taken_back k le (λ j y. withdrawn_by (k == j) y))) (λ j. sym (books_none j (holding_at s.rows j)))

-- the notice with a number, by what is kept of it
pub notice_read : (L : List Activity) (s : Contents) (k : ℕ) (g : Given) (st : Stage) (m : ℕ) → Follows L s → 1 ≤ k → Some g ≡ option_map (λ (x : Noticed). x.given) (kept_at s.notices k) → Some st ≡ option_map (λ (x : Noticed). x.stage) (kept_at s.notices k) → Some m ≡ option_map (remaining_by s.rows) (kept_at s.notices k)
    → Some (record { member = g.member; issue = g.issue; shares = g.shares; given = g.day; stage = st; remaining = m }) ≡ notice_listed (journal s.opening L) k
notice_read L s k g st m f le p q r = grind (arith, kept_found, remaining_same)
