-- Sums and counts over the rows of a sheet.
use Rattle.cns_terms.proofs.Facts.{suc, ◌≡◌, refl, ℕ, ◌*◌, ◌≤◌, ℤ, pos, Bool, true, false, not, cond, ◌==◌, List, [], ◌∷◌, length, map, filter, flat_map, arith, length-append, Account, Cusip, Day, Journal, accounts, is_idle, issue_lt, issues, open_day, row, money, same_issue, sheet_rows, total, filter_len, position, same_put}
use Rattle.std.proofs.lemmas.List.Elements.{filter-append}
use Rattle.cns_terms.proofs.Accounts.{occurs}
use Rattle.cns_terms.proofs.Reached.{IsLimited, sound_journal}
use Rattle.cns_terms.proofs.SheetSums.{idle_parts, rows_zero}
use Rattle.cns_terms.proofs.Sound.{IsSound}
use Rattle.cns_terms.proofs.Magnitudes.{total-zero}
use Rattle.cns_terms.proofs.ZeroSums.{cents_zero, each_part, positions_zero}
use Rattle.std.proofs.lemmas.List.{length-map}

-- ---- sums in an issue

one_issue : (b : Bool) (f : Account → ℤ) (bs : List Account) → total f bs ≡ pos 0 → total (λ a. cond b (f a) (pos 0)) bs ≡ pos 0
one_issue true f bs h = h
one_issue false f bs h = total-zero bs

-- the closings of a sheet's rows add up to zero in each issue
pub closings_zero : (opening : Day) (K : Journal) (c : Cusip) → IsLimited opening K → total (λ r. cond (same_issue r.issue c) r.closing (pos 0)) (sheet_rows opening K) ≡ pos 0
closings_zero opening K c l =
    rows_zero opening K (λ r. cond (same_issue r.issue c) r.closing (pos 0)) (λ a d h. rw ((idle_parts (row opening K a d) h).1) (grind arith))
    (λ d. one_issue (same_issue d c) (λ a. position K a d) (accounts K) (positions_zero (accounts K) d K (sound_journal opening K l)))

-- and so do the cents booked
pub moneys_zero : (opening : Day) (K : Journal) (c : Cusip) → IsLimited opening K → total (λ r. cond (same_issue r.issue c) r.money (pos 0)) (sheet_rows opening K) ≡ pos 0
moneys_zero opening K c l =
    rows_zero opening K (λ r. cond (same_issue r.issue c) r.money (pos 0)) (λ a d h. rw ((idle_parts (row opening K a d) h).2) (grind arith))
    (λ d. one_issue (same_issue d c) (λ a. money K a d) (accounts K) (cents_zero (accounts K) d (open_day K) (each_part _ K (sound_journal opening K l)).0))

-- ---- how many rows an account has

-- another account's rows
others : (opening : Day) (K : Journal) (a b : Account) (cs : List Cusip) → (b == a) ≡ false → filter (λ r. r.account == a) (filter (λ r. not (is_idle r)) (map (row opening K b) cs)) ≡ []
others opening K a b [] h = refl
others opening K a b (c ∷ cs) h = grind (arith, others opening K a b cs h)

-- an account's rows in some issues, over accounts
of_accounts : (opening : Day) (K : Journal) (a : Account) (bs : List Account) (cs : List Cusip) → length (filter (λ r. r.account == a) (flat_map (λ b. filter (λ r. not (is_idle r)) (map (row opening K b) cs)) bs)) ≤ occurs a bs * length cs
of_accounts opening K a [] cs = omega arith
of_accounts opening K a (b ∷ bs) cs = grind (arith, filter-append, length-append, filter_len, length-map, others, of_accounts opening K a bs cs)

-- once at most
pub at_most_one : (o n : ℕ) → o ≤ 1 → o * n ≤ n
at_most_one o n h1 = grind arith

-- no account has more rows than there are issues
pub rows_few : (opening : Day) (K : Journal) (a : Account) → IsSound K → length (filter (λ r. r.account == a) (sheet_rows opening K)) ≤ length (issues K)
rows_few opening K a s = omega (arith, of_accounts opening K a (accounts K) (issues K), at_most_one (occurs a (accounts K)) (length (issues K)) (s.distinct a))

-- no more issues than postings
pub issues_few : (K : Journal) → length (issues K) ≤ length K
issues_few [] = omega arith
issues_few (p ∷ K) = grind (arith, same_put length (λ (c : Cusip) n. suc n) (λ c cs. refl) (λ c d n. refl) issue_lt, issues_few K)
