-- A loop that chooses the members of a batch.
-- For `choose_ordered` of choice.rt.
use Rattle.cns_retransmit.proofs.Common.{◌≡◌, refl, ℕ, ◌+◌, ◌<◌, ◌≤◌, List, [], ◌∷◌, ◌++◌, append_assoc, get_or, length, take, drop, map, filter, sum_by, arith, IsOldestFirst, Liable, NoneOlder, Short, chosen_of, is_called, liable_of, nat_tests, sum_by-cons, cases_eq, sum_by_more, if_older}
use Rattle.cns_retransmit.proofs.Lists.{drop_next}

-- nobody is older than the oldest
no_older : (age : ℕ) (ts : List Short) → NoneOlder age ts → sum_by (if_older age) ts ≡ 0
no_older age [] h = refl
no_older age (t ∷ ts) h = grind (arith, no_older age ts h.1)

-- how far a loop over the shorts has come: what those before the next total, what is left to choose, that the rest are in order and no older than the last, and what those older than it, or than one younger, total
pub record Choosing (ss : List Short) (called i : ℕ) (liables : List Liable) (age older sum : ℕ) : Type 0 where
  pub sum_is : sum ≡ sum_by (λ s. s.shares) (take i ss)
  pub left : liables ++ map liable_of (filter (is_called ss called) (drop i ss)) ≡ chosen_of ss called
  pub falls : IsOldestFirst (drop i ss)
  pub first : i ≡ 0 → older ≡ 0
  pub later : 0 < i → (older ≡ sum_by (if_older age) ss) × NoneOlder age (drop i ss)
  pub ages : (a : ℕ) → (0 < i → a < age) → sum_by (if_older a) ss ≡ sum + sum_by (if_older a) (drop i ss)

-- the next, which is chosen or not, where what those older than it total is known by whether it is as old as the last
pub choosing_more : {ss : List Short} {called i : ℕ} {s : Short} {liables : List Liable} {age older sum : ℕ} → Choosing ss called i liables age older sum → i < length ss → s ≡ get_or ss i s → (more : List Liable) (now : ℕ) → (s.age ≡ age → now ≡ older) → ((s.age ≡ age → ⊥) → now ≡ sum)
    → (now < called → more ≡ liables ++ liable_of s ∷ []) → (called ≤ now → more ≡ liables) → Choosing ss called (i + 1) more s.age now (sum + s.shares)
choosing_more {ss} {called} {i} {s} {liables} {age} {older} {sum} c lt is more now as_old younger taken left =
    let next : drop i ss ≡ s ∷ drop (i + 1) ss = drop_next ss i s lt is in
    let cons : (a : ℕ) → sum_by (if_older a) (drop i ss) ≡ if_older a s + sum_by (if_older a) (drop (i + 1) ss) = λ a. rw next (sum_by-cons (if_older a) s (drop (i + 1) ss)) in
    grind (arith, nat_tests, cases_eq i 0, c, next, cons, no_older s.age (drop (i + 1) ss), append_assoc, sum_by_more (λ (s : Short). s.shares) ss i s)
