-- A loop that makes the fills of an execution.
-- For `make_fills` of filling.rt.
use Rattle.cns_retransmit.proofs.Common.{◌≡◌, refl, ℕ, ◌+◌, ◌-◌, ◌*◌, ◌/◌, ◌<◌, ◌≤◌, min, List, [], ◌∷◌, ◌++◌, append_assoc, append-nil, drop, drop_all, filter, get_or, length, nat_lt, sum_by, take, arith, Fill, Liable, laid, sum_by_more}
use Rattle.cns_retransmit.proofs.Lists.{drop_next}

-- the fills that are left to make
abbrev pub fills_from : (Liable → ℕ) → ℕ → ℕ → ℕ → List Liable → List Fill
fills_from each n m from ls = filter (λ f. nat_lt 0 f.shares) (laid each n m from ls)

-- how far a loop over a batch has come: the shares that are given, what is paid for them, and the fills that are made
pub record Filling (each : Liable → ℕ) (n m : ℕ) (ls : List Liable) (i : ℕ) (done : List Fill) (given paid : ℕ) : Type 0 where
  pub given_is : given ≡ min n (sum_by each (take i ls))
  pub paid_is : paid ≡ (m * given) / n
  pub made : done ++ fills_from each n m (sum_by each (take i ls)) (drop i ls) ≡ fills_from each n m 0 ls

-- once all shares are given, no fill is left
none_past : (each : Liable → ℕ) (n m from : ℕ) (ls : List Liable) → n ≤ from → fills_from each n m from ls ≡ []
none_past each n m from [] h = refl
none_past each n m from (l ∷ ls) h = grind (arith, none_past each n m (from + each l) ls (omega arith))

-- at the end of the batch, or once all shares are given, all fills are made
pub fill_last : {each : Liable → ℕ} {n m : ℕ} {ls : List Liable} {i : ℕ} {done : List Fill} {given paid : ℕ} → Filling each n m ls i done given paid → (i < length ls → given ≡ n) → done ≡ fills_from each n m 0 ls
fill_last {each} {n} {m} {ls} {i} inv full = grind (arith, inv, none_past each n m (sum_by each (take i ls)) (drop i ls), append-nil, drop_all)

-- one member more, which is given something or nothing
pub fill_more : {each : Liable → ℕ} {n m : ℕ} {ls : List Liable} {i : ℕ} {done : List Fill} {given paid : ℕ} → Filling each n m ls i done given paid → (l : Liable) (more : ℕ) → i < length ls → l ≡ get_or ls i l → more ≡ min (each l) (n - given) → (now : List Fill) (to due : ℕ)
    → (0 < more → (now ≡ done ++ record { member = l.member; shares = more; cents = due - paid } ∷ []) × (to ≡ given + more) × (due ≡ (m * to) / n)) → (more ≡ 0 → (now ≡ done) × (to ≡ given) × (due ≡ paid)) → Filling each n m ls (i + 1) now to due
fill_more {each} {ls = ls} {i = i} inv l more lt is more_is now to due some none = grind (arith, inv, append_assoc, drop_next ls i l, sum_by_more each ls i l)
