-- What is left of the liabilities of a batch, and what it can be given.
-- For `left_for` and `room_up_to` of filling.rt, `charge`, `choose`, `room` and `liable` of batch.rt.
use Rattle.cns_retransmit.proofs.Common.{◌≡◌, nat_tests, ◌⊎◌, nil_from_length, refl, ℕ, ◌+◌, ◌<◌, ◌≤◌, Bool, false, cond, List, [], ◌∷◌, filter, get_or, length, map, nat_eq, sum_by, arith, take, Fill, Liable, Member, Short, capacity, charged, chosen, fills_before, in_order, is_called, liable_of, shorts_of, sum_by-cons, sum_by-le-sum_by, sum_by_more_le, members_of, left_of, common_steps}
use Rattle.cns_retransmit.proofs.Ordered.{sum_in_order}

-- ---- a batch that was chosen

-- those that are called total no more than all
called_below : (g : Liable → ℕ) (p : Short → Bool) (ss : List Short) → sum_by g (map liable_of (filter p ss)) ≤ sum_by (λ t. g (liable_of t)) ss
called_below g p [] = omega arith
called_below g p (s ∷ ss) = grind (arith, sum_by-cons g (liable_of s) (map liable_of (filter p ss)), sum_by-cons (λ t. g (liable_of t)) s ss, called_below g p ss)

none_pass : (p : Short → Bool) (ss : List Short) → ((s : Short) → p s ≡ false) → filter p ss ≡ []
none_pass p [] none = refl
none_pass p (s ∷ ss) none = grind (arith, none s, none_pass p ss none)

-- nobody is chosen where nothing is called
pub none_called : (ss : List Short) → chosen ss 0 ≡ []
none_called ss = rw (none_pass (is_called ss 0) (in_order fills_before ss) (λ s. grind (arith, nat_tests)))

pub none_chosen : (ss : List Short) (called : ℕ) → (called ≡ 0) ⊎ (length ss ≡ 0) → chosen ss called ≡ []
none_chosen ss called none = grind (arith, none_called ss, nil_from_length ss)

-- what is chosen totals no more than all, of each member and together
chosen_below : (g : Liable → ℕ) (ss : List Short) (called : ℕ) → sum_by g (chosen ss called) ≤ sum_by (λ s. g (liable_of s)) ss
chosen_below g ss called = omega (arith, called_below g (is_called ss called) (in_order fills_before ss), sum_in_order (λ s. g (liable_of s)) fills_before ss)

pub chosen_members : (a : Member) (ss : List Short) (called : ℕ) → members_of a (chosen ss called) ≤ shorts_of a ss
chosen_members a = chosen_below (λ l. cond (nat_eq l.member a) 1 0)

pub chosen_left : (ss : List Short) (called : ℕ) → sum_by (λ l. l.left) (chosen ss called) ≤ sum_by (λ s. s.shares) ss
chosen_left = chosen_below (λ l. l.left)

-- ---- a batch that is charged

-- a charge leaves the members
pub members_of_charged : (a : Member) (fs : List Fill) (ls : List Liable) → members_of a (map (charged fs) ls) ≡ members_of a ls
members_of_charged a fs ls = grind (arith, common_steps)

-- and no more than was left
pub charged_below : (fs : List Fill) (ls : List Liable) → sum_by (λ l. l.left) (map (charged fs) ls) ≤ sum_by (λ l. l.left) ls
charged_below fs ls = grind (arith, common_steps, sum_by-le-sum_by (λ l. (charged fs l).left) (λ (l : Liable). l.left) ls (λ l. omega arith))

-- what is left of one is no more than what is left of all
pub left_below : (a : Member) (ls : List Liable) → left_of a ls ≤ sum_by (λ l. l.left) ls
left_below a [] = omega arith
left_below a (l ∷ ls) = grind (arith, sum_by-cons (λ (l : Liable). l.left) l ls, left_below a ls)

-- what a batch can be given is no more than is left
pub capacities_below : (short : Member → ℕ) (ls : List Liable) → sum_by (capacity short) ls ≤ sum_by (λ l. l.left) ls
capacities_below short ls = sum_by-le-sum_by (capacity short) (λ l. l.left) ls (λ l. omega arith)

-- so is the room of those that are done and of one more
pub room_fits : (short : Member → ℕ) (ls : List Liable) (i : ℕ) (l : Liable) → i < length ls → l ≡ get_or ls i l → sum_by (capacity short) (take i ls) + capacity short l ≤ sum_by (λ l. l.left) ls
room_fits short ls i l h is = grind (arith, capacities_below short ls, sum_by_more_le (capacity short) ls i l h)
