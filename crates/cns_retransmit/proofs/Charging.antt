-- Fills charged to a batch one after another, in any order.
-- For `charge` of filling.rt, `fill` of batch.rt.
use Rattle.cns_retransmit.proofs.Common.{◌≡◌, refl, ℕ, ◌+◌, ◌-◌, ◌<◌, ◌≤◌, cond, List, [], ◌∷◌, get_or, set, take, length, map, nat_eq, nat_lt, arith, get_or-set_same, get_or-set_other, length-set, AllByRecursion, CanBeCharged, Fill, Liable, Member, capacity, cases_lt, charged, each_filter, each_weaker, fills_laid, fills_of, laid, stretch, sum_by-cons, sum_by_more, nat_tests, cases_eq, ext_get_or, get_or_default, get_or-map, sum_by_more_le, All-from_recursion, All-get_or, members_of, length-map, left_of, get_or_head, get_or_tail, IsWithin, fills_for}
use Rattle.cns_terms.specs.Fills.{given_to}
use Rattle.cns_retransmit.proofs.Lists.{many_more, one_if, places_apart, rest_once}
use Rattle.cns_retransmit.proofs.FillSteps.{fills_from}

-- whose a liability is
abbrev of : Liable → Member
of l = l.member

-- what is left of a member's liability stands at its place
left_at : (a : Member) (ls : List Liable) (p : ℕ) (d : Liable) → ((b : Member) → members_of b ls ≤ 1) → p < length ls → (get_or ls p d).member ≡ a → left_of a ls ≡ (get_or ls p d).left
left_at a [] p d once lt is = absurd (omega arith)
left_at a (l ∷ ls) p d once lt is = grind (arith, nat_tests, get_or_head l ls p d, get_or_tail, places_apart of (l ∷ ls) 0 p d once, left_at a ls (p - 1) d (rest_once of l ls once).1)

-- a member without a fill is given nothing
ungiven : (a : Member) (fs : List Fill) → fills_for a fs ≡ 0 → given_to a fs ≡ 0
ungiven a [] none = refl
ungiven a (f ∷ fs) none = grind (arith, nat_tests, sum_by-cons (λ (g : Fill). cond (nat_eq g.member a) g.shares 0) f fs, many_more (λ (g : Fill). g.member) a f fs, ungiven a fs)

-- a loop over fills: those so far are charged to the batch, where f, the next, is charged at the place of its member
module _ (fills : List Fill) (initial : List Liable) (i : ℕ) (f : Fill) (can : CanBeCharged fills initial) (once : (a : Member) → members_of a initial ≤ 1) (lt : i < length fills) (is : f ≡ get_or fills i f) (now : List Liable) (now_is : now ≡ map (charged (take i fills)) initial) (p : ℕ) (d : Liable) (at : p < length now) (there : (get_or now p d).member ≡ f.member) where
  -- enough is left there
  pub next_enough : f.shares ≤ (get_or now p d).left
  next_enough =
      let within : IsWithin initial f = rw is (All-get_or (IsWithin initial) fills i f lt can.within) in
      grind (arith, nat_tests, length-map, get_or-map (charged (take i fills)) initial p d d, left_at f.member initial p d once, ungiven f.member (take i fills), sum_by_more_le (λ (g : Fill). one_if (nat_eq g.member f.member)) fills i f, can.once f.member, within.enough)

  -- with it one more is charged
  pub next_charged : (e : Liable) → set now p (record { member = (get_or now p e).member; age = (get_or now p e).age; closing = (get_or now p e).closing; left = (get_or now p d).left - f.shares }) ≡ map (charged (take (i + 1) fills)) initial
  next_charged e =
      let y : Liable = record { member = (get_or now p e).member; age = (get_or now p e).age; closing = (get_or now p e).closing; left = (get_or now p d).left - f.shares } in
      ext_get_or d _ _ (grind (arith, length-set, length-map))
      (λ k h. grind (arith, nat_tests, length-set, length-map, get_or_default now p d e at, get_or-map (charged (take i fills)) initial k d d, get_or-map (charged (take i fills)) initial p d d, get_or-map (charged (take (i + 1) fills)) initial k d d, sum_by_more (λ (g : Fill). cond (nat_eq g.member (get_or initial k d).member) g.shares 0) fills i f, get_or-set_same now p y d at, get_or-set_other now p k y d, cases_eq k p, cases_lt k p, places_apart of initial k p d once, places_apart of initial p k d once))

-- ---- the fills of an execution

-- no member has more fills than it stands in the batch
fills_count : (each : Liable → ℕ) (n m from : ℕ) (a : Member) (ls : List Liable) → fills_for a (fills_from each n m from ls) ≤ members_of a ls
fills_count each n m from a [] = omega arith
fills_count each n m from a (l ∷ ls) = grind (arith, fills_count each n m (from + each l) a ls, many_more of a l ls, many_more (λ (f : Fill). f.member) a (stretch n m from (from + each l) l.member) (fills_from each n m (from + each l) ls))

-- and each is for a member of the batch, and for no more than is left there
each_within : (each : Liable → ℕ) (n m from : ℕ) (ls : List Liable) → ((a : Member) → members_of a ls ≤ 1) → ((l : Liable) → each l ≤ l.left) → AllByRecursion (IsWithin ls) (laid each n m from ls)
each_within each n m from [] once le = tt
each_within each n m from (l ∷ ls) once le = grind (arith, nat_tests, le l, many_more of l.member l ls, each_weaker (IsWithin ls) (IsWithin (l ∷ ls)) (laid each n m (from + each l) ls) (λ f w. grind (arith, nat_tests, (rest_once of l ls once).0, w, many_more of f.member l ls)), each_within each n m (from + each l) ls (rest_once of l ls once).1 le)

-- a batch can be charged with the fills of an execution
pub fills_chargeable : (short : Member → ℕ) (n m : ℕ) (ls : List Liable) → ((a : Member) → members_of a ls ≤ 1) → CanBeCharged (fills_of short n m ls) ls
fills_chargeable short n m ls once = rw (fills_laid short n m ls) (record {
  once = λ a. omega (arith, fills_count (capacity short) n m 0 a ls, once a);
  within = All-from_recursion (IsWithin ls) _ (each_filter (IsWithin ls) (λ f. nat_lt 0 f.shares) _ (each_within (capacity short) n m 0 ls once (λ l. omega arith)));
})
