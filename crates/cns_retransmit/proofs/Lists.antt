-- Lists that a loop goes over, and lists in which each member stands at most once.
-- For `make_fills` and `charge` of filling.rt, `choose_ordered` of choice.rt and others.
use Rattle.cns_retransmit.proofs.Common.{◌≡◌, Bool, false, cond, ℕ, ◌+◌, ◌<◌, ◌≤◌, List, [], ◌∷◌, ◌++◌, arith, take, drop, get_or, length, sum_by, nat_eq, length-take, get_or-take, Member, take_more, nat_tests, sum_by-cons, drop_more, get_or-le-sum_by, sum_by_more_le}

-- 1 for what is counted, 0 for what is not
abbrev pub one_if : Bool → ℕ
one_if b = cond b 1 0

module _ {X : Type 0} where
  -- the rest of a list begins with the next, by its name
  pub drop_next : (xs : List X) (i : ℕ) (x : X) → i < length xs → x ≡ get_or xs i x → drop i xs ≡ x ∷ drop (i + 1) xs
  drop_next xs i x h is = grind (arith, drop_more)

  -- and the front ends with it, one further
  pub take_next : (xs : List X) (i : ℕ) (x : X) → i < length xs → x ≡ get_or xs i x → take (i + 1) xs ≡ take i xs ++ x ∷ []
  take_next xs i x h is = grind (arith, take_more)

-- ---- members

module _ {X : Type 0} (of : X → Member) where
  -- how many are a member's
  abbrev pub many : Member → List X → ℕ
  many a xs = sum_by (λ x. one_if (nat_eq (of x) a)) xs

  pub many_more : (a : Member) (x : X) (xs : List X) → many a (x ∷ xs) ≡ one_if (nat_eq (of x) a) + many a xs
  many_more a x xs = sum_by-cons (λ x. one_if (nat_eq (of x) a)) x xs

  -- where each member stands once, the first is not among the rest, where each stands once
  pub rest_once : (x : X) (xs : List X) → ((a : Member) → many a (x ∷ xs) ≤ 1) → (many (of x) xs ≡ 0) × ((a : Member) → many a xs ≤ 1)
  rest_once x xs once = (grind (arith, nat_tests, many_more (of x) x xs, once (of x)), λ a. omega (arith, many_more a x xs, once a))

  -- two places are not of one member
  pub places_apart : (xs : List X) (i j : ℕ) (d : X) → ((a : Member) → many a xs ≤ 1) → i < j → j < length xs → nat_eq (of (get_or xs i d)) (of (get_or xs j d)) ≡ false
  places_apart xs i j d once lt h =
      let f : X → ℕ = λ x. one_if (nat_eq (of x) (of (get_or xs j d))) in
      grind (arith, nat_tests, once (of (get_or xs j d)), get_or-le-sum_by f (take j xs) i d, get_or-take, length-take, sum_by_more_le f xs j d h)
