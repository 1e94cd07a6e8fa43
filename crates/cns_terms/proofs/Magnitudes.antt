-- Sums of numbers with a sign, sums of absolute values, which bound them, and a number for each account in each issue.
use Rattle.cns_terms.proofs.Facts.{◌≡◌, ap, refl, ℕ, zero, suc, ◌+◌, ◌*◌, ◌≤◌, ℤ, Bool, List, [], ◌∷◌, ◌++◌, length, map, filter, flat_map, take, arith, unsigned_abs, pos, true, ◌&&◌, cond, nat_cmp, bytes_eq, ◌+ℤ◌, neg_ℤ, sym, ◌∙◌, AllByRecursion, total, Account, Cusip, Journal, accounts, issues, slice_cmp, bytes_eq-Decides, ints, is_eq-slice_cmp}
use Rattle.cns_terms.proofs.Rising.{above_all, is_rising}

pub total-append : {X : Type 0} (f : X → ℤ) (xs ys : List X) → total f (xs ++ ys) ≡ total f xs +ℤ total f ys
total-append f [] ys = omega (arith, ints)
total-append f (x ∷ xs) ys = omega (arith, ints, total-append f xs ys)

pub total-map : {X Y : Type 0} (f : Y → ℤ) (g : X → Y) (xs : List X) → total f (map g xs) ≡ total (λ x. f (g x)) xs
total-map f g [] = refl
total-map f g (x ∷ xs) = cc (total-map f g xs)

pub total-zero : {X : Type 0} (xs : List X) → total (λ x. pos 0) xs ≡ pos 0
total-zero [] = refl
total-zero (x ∷ xs) = omega (arith, ints, total-zero xs)

pub total-add : {X : Type 0} (f g : X → ℤ) (xs : List X) → total (λ x. f x +ℤ g x) xs ≡ total f xs +ℤ total g xs
total-add f g [] = refl
total-add f g (x ∷ xs) = let e = total-add f g xs in omega (arith, ints)

pub total-neg : {X : Type 0} (f : X → ℤ) (xs : List X) → total (λ x. neg_ℤ (f x)) xs ≡ neg_ℤ (total f xs)
total-neg f [] = refl
total-neg f (x ∷ xs) = let e = total-neg f xs in omega (arith, ints)

-- two sums, one in the other, in either order
pub total-swap : {X Y : Type 0} (f : X → Y → ℤ) (xs : List X) (ys : List Y) → total (λ x. total (f x) ys) xs ≡ total (λ y. total (λ x. f x y) xs) ys
total-swap f [] ys = sym (total-zero ys)
total-swap f (x ∷ xs) ys = ap (λ n. total (f x) ys +ℤ n) (total-swap f xs ys) ∙ sym (total-add (f x) (λ y. total (λ x. f x y) xs) ys)

-- two sums of the same terms
pub total-same : {X : Type 0} (f g : X → ℤ) (xs : List X) → ((x : X) → f x ≡ g x) → total f xs ≡ total g xs
total-same f g xs h = λ i. total (λ x. h x i) xs

-- f of each, added up
abbrev pub added : {X : Type 0} → (X → ℕ) → List X → ℕ
added f [] = 0
added f (x ∷ xs) = f x + added f xs

-- the absolute values of f of each, added up
abbrev pub magnitude : {X : Type 0} → (X → ℤ) → List X → ℕ
magnitude f xs = added (λ x. unsigned_abs (f x)) xs

-- a sum is no further from zero than its terms together
pub total_small : {X : Type 0} (f : X → ℤ) (xs : List X) → unsigned_abs (total f xs) ≤ magnitude f xs
total_small f [] = omega (arith, ints)
total_small f (x ∷ xs) = grind (arith, total_small f xs)

-- the first of some terms are no more than all
front_small : {X : Type 0} (f : X → ℕ) (n : ℕ) (xs : List X) → added f (take n xs) ≤ added f xs
front_small f zero xs = omega arith
front_small f (suc n) [] = omega arith
front_small f (suc n) (x ∷ xs) = omega (arith, front_small f n xs)

-- nor is the sum of the first of them
pub front_total : {X : Type 0} (f : X → ℤ) (n m : ℕ) (xs : List X) → magnitude f xs ≤ m → unsigned_abs (total f (take n xs)) ≤ m
front_total f n m xs h = omega (arith, total_small f (take n xs), front_small (λ x. unsigned_abs (f x)) n xs, h)

-- a sum over two lists
pub added-append : {X : Type 0} (f : X → ℕ) (xs ys : List X) → added f (xs ++ ys) ≡ added f xs + added f ys
added-append f [] ys = omega arith
added-append f (x ∷ xs) ys = omega (arith, added-append f xs ys)

-- where each list of a row of lists has a bound, the lists together have the bounds together
pub added-flat_map : {X Y : Type 0} (f : Y → ℕ) (g : X → List Y) (h : X → ℕ) (xs : List X) → ((x : X) → added f (g x) ≤ h x) → added f (flat_map g xs) ≤ added h xs
added-flat_map f g h [] le = omega arith
added-flat_map f g h (x ∷ xs) le = omega (arith, added-append f (g x) (flat_map g xs), le x, added-flat_map f g h xs le)

-- what is kept is no more than all
pub added-filter : {X : Type 0} (f : X → ℕ) (p : X → Bool) (xs : List X) → added f (filter p xs) ≤ added f xs
added-filter f p [] = omega arith
added-filter f p (x ∷ xs) = grind (arith, added-filter f p xs)

-- a sum over the values of a function
pub added-map : {X Y : Type 0} (f : Y → ℕ) (g : X → Y) (xs : List X) → added f (map g xs) ≡ added (λ x. f (g x)) xs
added-map f g [] = refl
added-map f g (x ∷ xs) = ap (λ n. f (g x) + n) (added-map f g xs)

-- where each is no more than another, so is the sum
pub added-more : {X : Type 0} (f g : X → ℕ) (xs : List X) → ((x : X) → f x ≤ g x) → added f xs ≤ added g xs
added-more f g [] le = omega arith
added-more f g (x ∷ xs) le = omega (arith, le x, added-more f g xs le)

-- where each of a list has a bound, the sum has the bound for each
pub added-each : {X : Type 0} (f : X → ℕ) (m : ℕ) (xs : List X) → AllByRecursion (λ x. f x ≤ m) xs → added f xs ≤ m * length xs
added-each f m [] le = omega arith
added-each f m (x ∷ xs) le = omega (arith, le.0, added-each f m xs le.1)

-- the same where all have the bound
pub added-all : {X : Type 0} (f : X → ℕ) (m : ℕ) (xs : List X) → ((x : X) → f x ≤ m) → added f xs ≤ m * length xs
added-all f m [] le = omega arith
added-all f m (x ∷ xs) le = omega (arith, le x, added-all f m xs le)

-- a sum of sums
pub added-add : {X : Type 0} (f g : X → ℕ) (xs : List X) → added (λ x. f x + g x) xs ≡ added f xs + added g xs
added-add f g [] = refl
added-add f g (x ∷ xs) = omega (arith, added-add f g xs)

-- two sums, one in the other, in either order
pub added-swap : {X Y : Type 0} (f : X → Y → ℕ) (xs : List X) (ys : List Y) → added (λ x. added (f x) ys) xs ≡ added (λ y. added (λ x. f x y) xs) ys
added-swap f [] ys = omega (arith, added-all (λ y. 0) 0 ys (λ y. omega arith))
added-swap f (x ∷ xs) ys = omega (arith, added-swap f xs ys, added-add (f x) (λ y. added (λ x. f x y) xs) ys)

-- a number of each row, over the accounts and the issues
abbrev pub over_all : (Account → Cusip → ℕ) → Journal → ℕ
over_all g K = added (λ a. added (g a) (issues K)) (accounts K)

-- a greater number for each account and issue
pub over_more : (g h : Account → Cusip → ℕ) (K : Journal) → ((a : Account) (c : Cusip) → g a c ≤ h a c) → over_all g K ≤ over_all h K
over_more g h K le = added-more (λ a. added (g a) (issues K)) (λ a. added (h a) (issues K)) (accounts K) (λ a. added-more (g a) (h a) (issues K) (λ c. le a c))

-- a sum at each place is no further from zero than its terms over all places
pub over_total : {X : Type 0} (f : Account → Cusip → X → ℤ) (xs : List X) (K : Journal) → over_all (λ a c. unsigned_abs (total (f a c) xs)) K ≤ added (λ x. over_all (λ a c. unsigned_abs (f a c x)) K) xs
over_total f xs K =
    omega (
      arith,
      over_more (λ a c. unsigned_abs (total (f a c) xs)) (λ a c. magnitude (f a c) xs) K (λ a c. total_small (f a c) xs),
      added-more (λ a. added (λ c. magnitude (f a c) xs) (issues K)) (λ a. added (λ x. magnitude (λ c. f a c x) (issues K)) xs) (accounts K) (λ a. omega (arith, added-swap (λ c x. unsigned_abs (f a c x)) (issues K) xs)),
      added-swap (λ a x. magnitude (λ c. f a c x) (issues K)) (accounts K) xs,
    )

-- a number given to an issue is given to none of the issues after it
none_above : (b : Bool) (i c : Cusip) (z : ℤ) (cs : List Cusip) → i ≡ c → above_all (slice_cmp nat_cmp) c cs ≡ true → added (λ d. unsigned_abs (cond (b && bytes_eq i d) z (pos 0))) cs ≡ 0
none_above b i c z [] e h = refl
none_above b i c z (d ∷ cs) e h = grind (arith, is_eq-slice_cmp c d, none_above b i c z cs)

-- a number given to one of the issues, or to none
pub one_issue : (b : Bool) (i : Cusip) (z : ℤ) (cs : List Cusip) → is_rising (slice_cmp nat_cmp) cs ≡ true → added (λ c. unsigned_abs (cond (b && bytes_eq i c) z (pos 0))) cs ≤ unsigned_abs (cond b z (pos 0))
one_issue b i z [] h = omega arith
one_issue b i z (c ∷ cs) h = grind (arith, bytes_eq-Decides i c, none_above b i c z cs, one_issue b i z cs)
