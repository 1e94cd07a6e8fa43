-- How batches stand after one more activity.
use Rattle.cns_terms.proofs.Common.{◌≡◌, refl, ℕ, ◌+◌, ◌≤◌, true, false, cond, ◌==◌, List, [], ◌∷◌, map, filter, sum_by, arith, Activity, Cusip, Day, Execution, Fill, IsReached, Journal, Liable, Member, Notice, Posting, Short, batch_at, batch_since, called, charged, day, executes, execution_entries, fill_entry, fills, fills_before, in_order, is_called, journal, left_of, liable_of, long, originator_entry, same_issue, shares_for, shorts, sum_by-cons, ints, brought, filled, given_to}

-- and leaves it
pub batch_same : (p : Posting) (J K : Journal) (c : Cusip) → executes J (day K) c p.activity ≡ false → batch_since (p ∷ J) K c ≡ batch_since J K c
batch_same p J K c h =
    let same : (l : Liable) → left_of (p ∷ J) (day K) c l ≡ left_of J (day K) c l = λ l. grind arith in
    λ i. map (λ l. same l i) (batch_at K c)

-- ---- no notice of a day is executed before the second day after it

-- nothing is filled of the notices of the open day, nor of the day before it
pub unfilled : (opening : Day) (L : List Activity) (n : ℕ) (c : Cusip) (a : Member) → IsReached opening L → day (journal opening L) ≤ n + 1 → filled (journal opening L) n c a ≡ 0
unfilled opening [] n c a r le = refl
unfilled opening (x ∷ L) n c a r le = grind (arith, unfilled opening L n c a r.2)

-- liabilities that nothing was filled of
left_whole : (J : Journal) (n : ℕ) (c : Cusip) (ss : List Short) → ((a : Member) → filled J n c a ≡ 0) → map (left_of J n c) (map liable_of ss) ≡ map liable_of ss
left_whole J n c [] h = refl
left_whole J n c (s ∷ ss) h = grind (arith, left_whole J n c ss h)

-- a batch that nothing was filled of is as it was chosen
pub batch_new : (J K : Journal) (c : Cusip) → ((a : Member) → filled J (day K) c a ≡ 0) → batch_since J K c ≡ batch_at K c
batch_new J K c h = left_whole J (day K) c (filter (is_called (shorts K c) (called K c)) (in_order fills_before (shorts K c))) h

-- ---- an execution

-- what an execution's entries bring a member is what its fills give it
brought_all : (k : Notice) (a : Member) (c : Cusip) → same_issue k.given.issue c ≡ true → (fs : List Fill) → sum_by (λ e. long (shares_for a c e)) (map (fill_entry k) fs) ≡ given_to a fs
brought_all k a c is [] = refl
brought_all k a c is (f ∷ fs) = grind (arith, is, brought_all k a c is fs, sum_by-cons (λ e. long (shares_for a c e)) (fill_entry k f) (map (fill_entry k) fs), sum_by-cons (λ (f : Fill). cond (f.member == a) f.shares 0) f fs)

-- and its originator is brought nothing
pub brought_by : (J : Journal) (x : Execution) (k : Notice) (a : Member) (c : Cusip) → same_issue k.given.issue c ≡ true → brought a c (execution_entries J x k) ≡ given_to a (fills J x k)
brought_by J x k a c is = grind (arith, ints, brought_all k a c is (fills J x k), sum_by-cons (λ e. long (shares_for a c e)) (originator_entry x k) (map (fill_entry k) (fills J x k)))

-- the execution of a notice lowers what is left of its batch by its fills
pub batch_charged : (p : Posting) (J K : Journal) (c : Cusip) (x : Execution) (k : Notice) → executes J (day K) c p.activity ≡ true → p.entries ≡ execution_entries J x k → same_issue k.given.issue c ≡ true → batch_since (p ∷ J) K c ≡ map (charged (fills J x k)) (batch_since J K c)
batch_charged p J K c x k is entries same = each (batch_at K c)
  where
    each : (ls : List Liable) → map (left_of (p ∷ J) (day K) c) ls ≡ map (charged (fills J x k)) (map (left_of J (day K) c) ls)
    each [] = refl
    each (l ∷ ls) = grind (arith, brought_by J x k l.member c same, each ls)
