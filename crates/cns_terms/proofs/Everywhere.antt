-- What holds of each element of a list.
use Rattle.cns_terms.proofs.Facts.{ℕ, ◌≤◌, Bool, ◌≡◌, ◌||◌, List, [], ◌∷◌, ◌++◌, map, filter, find, slice_get, reverse, unwrap_or, refl, arith, AllByRecursion, in_order, list_any, reverse_onto, put, same_put}
use Rattle.cns_terms.proofs.Accounts.{occurs}

pub each_weaker : {X : Type 0} (P Q : X → Type 0) (xs : List X) → ((x : X) → P x → Q x) → AllByRecursion P xs → AllByRecursion Q xs
each_weaker P Q [] h a = tt
each_weaker P Q (x ∷ xs) h a = (h x a.0, each_weaker P Q xs h a.1)

-- what holds of each, and so does another
pub each_both : {X : Type 0} (P Q : X → Type 0) (xs : List X) → AllByRecursion P xs → AllByRecursion Q xs → AllByRecursion (λ x. P x × Q x) xs
each_both P Q [] p q = tt
each_both P Q (x ∷ xs) p q = ((p.0, q.0), each_both P Q xs p.1 q.1)

pub each_map : {X Y : Type 0} (P : Y → Type 0) (f : X → Y) (xs : List X) → AllByRecursion (λ x. P (f x)) xs → AllByRecursion P (map f xs)
each_map P f [] a = tt
each_map P f (x ∷ xs) a = (a.0, each_map P f xs a.1)

pub each_append : {X : Type 0} (P : X → Type 0) (xs ys : List X) → AllByRecursion P xs → AllByRecursion P ys → AllByRecursion P (xs ++ ys)
each_append P [] ys a b = b
each_append P (x ∷ xs) ys a b = (a.0, each_append P xs ys a.1 b)

pub each_reverse : {X : Type 0} (P : X → Type 0) (xs : List X) → AllByRecursion P xs → AllByRecursion P (reverse xs)
each_reverse P [] a = tt
each_reverse P (x ∷ xs) a = grind (arith, reverse_onto, each_append P (reverse xs) (x ∷ []), each_reverse P xs)

pub each_filter : {X : Type 0} (P : X → Type 0) (t : X → Bool) (xs : List X) → AllByRecursion P xs → AllByRecursion P (filter t xs)
each_filter P t [] a = tt
each_filter P t (x ∷ xs) a = grind (arith, each_filter P t xs a.1)

each_put : {X : Type 0} (P : X → Type 0) (before : X → X → Bool) (x : X) (xs : List X) → P x → AllByRecursion P xs → AllByRecursion P (put before x xs)
each_put P before x [] p a = (p, tt)
each_put P before x (y ∷ ys) p a = grind (arith, each_put P before x ys p a.1)

pub each_in_order : {X : Type 0} (P : X → Type 0) (before : X → X → Bool) (xs : List X) → AllByRecursion P xs → AllByRecursion P (in_order before xs)
each_in_order P before [] a = tt
each_in_order P before (x ∷ xs) a = each_put P before x (in_order before xs) a.0 (each_in_order P before xs a.1)

-- what is found, or what stands in its place
pub each_found : {X : Type 0} (P : X → Type 0) (t : X → Bool) (d : X) (xs : List X) → P d → AllByRecursion P xs → P (unwrap_or (find t xs) d)
each_found P t d [] p a = p
each_found P t d (x ∷ xs) p a = grind (arith, each_found P t d xs p a.1)

pub each_stands : (bs : List ℕ) → AllByRecursion (λ a. 1 ≤ occurs a bs) bs
each_stands [] = tt
each_stands (b ∷ bs) = grind (arith, each_weaker, each_stands bs)

-- some element of a list, with one more put in its place
pub any_put : {X : Type 0} (p : X → Bool) (before : X → X → Bool) (x : X) (ys : List X) → list_any p (put before x ys) ≡ (p x || list_any p ys)
any_put p = same_put (list_any p) (λ x b. p x || b) (λ x xs. refl) (λ x y b. grind arith)

-- the first of a list, or what stands in its place
pub each_first : {X : Type 0} (P : X → Type 0) (d : X) (xs : List X) → P d → AllByRecursion P xs → P (unwrap_or (slice_get xs 0) d)
each_first P d [] p a = p
each_first P d (x ∷ xs) p a = a.0
