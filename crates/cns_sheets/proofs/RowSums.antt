-- Sums over rows, one row after another.
-- For `build` of sheet.rt, `pay_members` of payments.rt.
use Rattle.cns_sheets.proofs.Common.{◌≡◌, ◌∙◌, sym, ℕ, ◌*◌, ◌^◌, ◌≤◌, ◌+ℤ◌, ◌-ℤ◌, List, [], ◌∷◌, ◌++◌, length, take, append_assoc, arith, unsigned_abs, AllByRecursion, IsMarked, Row, added, added-each, amount_limit, total-append, ℤ, each_weaker, front_total, ints, sum_limit, total, total-add, total-same}

-- what an iterator gave and has left, after one more
pub onward : {X : Type 0} (xs ys left : List X) (x : X) (zs : List X) → xs ≡ ys ++ left → left ≡ x ∷ zs → xs ≡ (ys ++ x ∷ []) ++ zs
onward xs ys left x zs whole next = rw (whole, next) (sym (append_assoc ys (x ∷ []) zs))

-- one term more
pub total_push : {X : Type 0} (f : X → ℤ) (xs : List X) (x : X) → total f (xs ++ x ∷ []) ≡ total f xs +ℤ f x
total_push f xs x = omega (arith, ints, total-append f xs (x ∷ []))

-- ---- the marks of an account

-- what each of some marked rows gains is small
gains_few : (rows : List Row) → AllByRecursion IsMarked rows → added (λ r. unsigned_abs (r.mark -ℤ r.money)) rows ≤ 2 ^ 64 * 10 ^ 9 * length rows
gains_few rows a = added-each (λ r. unsigned_abs (r.mark -ℤ r.money)) (2 ^ 64 * 10 ^ 9) rows (each_weaker IsMarked (λ r. unsigned_abs (r.mark -ℤ r.money) ≤ 2 ^ 64 * 10 ^ 9) rows (λ r m. m.gained) a)

-- marks are gains and cents
parts : (rows : List Row) → total (λ r. r.mark) rows ≡ total (λ r. r.mark -ℤ r.money) rows +ℤ total (λ r. r.money) rows
parts rows = total-same (λ (r : Row). r.mark) (λ r. (r.mark -ℤ r.money) +ℤ r.money) rows (λ r. omega (arith, ints)) ∙ total-add (λ (r : Row). r.mark -ℤ r.money) (λ r. r.money) rows

-- so the marks of few rows stay small, where the cents do
pub marks_stay : (rows : List Row) → AllByRecursion IsMarked rows → length rows ≤ 2 ^ 32 → (n : ℕ) → unsigned_abs (total (λ r. r.money) (take n rows)) ≤ amount_limit → unsigned_abs (total (λ r. r.mark) (take n rows)) ≤ sum_limit
marks_stay rows a few n small = omega (arith, ints, parts (take n rows), front_total (λ (r : Row). r.mark -ℤ r.money) n (2 ^ 64 * 10 ^ 9 * length rows) rows (gains_few rows a), few, small)
