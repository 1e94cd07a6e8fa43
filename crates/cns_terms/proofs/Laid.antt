-- Stretches laid end to end, each from where the one before it ends: so the fills of an execution are its shares and its money, whole.
use Rattle.cns_terms.proofs.Facts.{◌≡◌, ap, refl, ℕ, ◌+◌, List, [], ◌∷◌, ◌++◌, append_assoc, filter, length, map, nat_lt, sum_by, arith, length-append, le_trans, ◌*◌, ◌/◌, ◌<◌, ◌≤◌, min, false, div-mul-le_self, mul-le-mul_left, Fill, Liable, Member, capacity, fills_of, stretch, room_of, stretch_at, sum_by-append, sum_by-cons}
use Rattle.std.specs.List.{enumerate_from}
use Rattle.std.proofs.Math.Seq.{take-append_seam}
use Rattle.std.proofs.lemmas.Nat.{le-div}

-- the stretches of members, laid end to end from a share on
abbrev pub laid : (Liable → ℕ) → ℕ → ℕ → ℕ → List Liable → List Fill
laid each n m from [] = []
laid each n m from (l ∷ ls) = stretch n m from (from + each l) l.member ∷ laid each n m (from + each l) ls

-- those of the members after some, by their places
laid_after : (each : Liable → ℕ) (n m : ℕ) (done rest : List Liable) → map (stretch_at each n m (done ++ rest)) (enumerate_from (length done) rest) ≡ laid each n m (sum_by each done) rest
laid_after each n m done [] = refl
laid_after each n m done (l ∷ ls) = grind (arith, take-append_seam, append_assoc, length-append, sum_by-append, sum_by-cons, laid_after each n m (done ++ l ∷ []) ls)

-- the fills of an execution are those of the stretches that hold any of its shares
pub fills_laid : (short : Member → ℕ) (n m : ℕ) (ls : List Liable) → fills_of short n m ls ≡ filter (λ f. nat_lt 0 f.shares) (laid (capacity short) n m 0 ls)
fills_laid short n m ls = ap (filter (λ f. nat_lt 0 f.shares)) (laid_after (capacity short) n m [] ls)

-- what falls to stretches laid end to end, where what falls to a stretch is the rise of P over it
of_stretches : (f : Fill → ℕ) (P : ℕ → ℕ) (n m : ℕ) → ((from to a : ℕ) → from ≤ to → f (stretch n m from to a) + P from ≡ P to) → ((from to a : ℕ) → nat_lt 0 (stretch n m from to a).shares ≡ false → f (stretch n m from to a) ≡ 0)
    → (each : Liable → ℕ) (from : ℕ) (ss : List Liable) → sum_by f (filter (λ f. nat_lt 0 f.shares) (laid each n m from ss)) + P from ≡ P (from + sum_by each ss)
of_stretches f P n m rise none each from [] = grind arith
of_stretches f P n m rise none each from (s ∷ ss) =
    grind (arith, sum_by-cons each s ss, sum_by-cons f (stretch n m from (from + each s) s.member), rise from (from + each s) s.member, none from (from + each s) s.member, of_stretches f P n m rise none each (from + each s) ss)

-- the part of the money m that belongs to the first k of n shares
abbrev pub paid : ℕ → ℕ → ℕ → ℕ
paid n m k = (m * min n k) / n

pub paid_more : (n m j k : ℕ) → 0 < n → j ≤ k → (m * j) / n ≤ (m * k) / n
paid_more n m j k some h = le-div ((m * j) / n) (m * k) n some (le_trans (div-mul-le_self (m * j) n) (mul-le-mul_left m h))

-- the fills of n shares that a batch has room for are n shares
pub shares_of_fills : (short : Member → ℕ) (n m : ℕ) (ls : List Liable) → n ≤ room_of short ls → sum_by (λ f. f.shares) (fills_of short n m ls) ≡ n
shares_of_fills short n m ls h = rw (fills_laid short n m ls) (omega (arith, of_stretches (λ f. f.shares) (min n) n m (λ from to a h. omega arith) (λ from to a none. grind arith) (capacity short) 0 ls))

-- and they are paid the whole money
pub cents_of_fills : (short : Member → ℕ) (n m : ℕ) (ls : List Liable) → 0 < n → n ≤ room_of short ls → sum_by (λ f. f.cents) (fills_of short n m ls) ≡ m
cents_of_fills short n m ls h1 h2 = grind (arith, of_stretches (λ f. f.cents) (paid n m) n m (λ from to a h. grind (arith, paid_more)) (λ from to a none. grind arith) (capacity short) 0 ls, fills_laid)
