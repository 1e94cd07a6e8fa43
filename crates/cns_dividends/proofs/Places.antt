-- Dividends in their places.
-- For `declare` and `due` of dividends.rt.
use Rattle.cns_dividends.proofs.Common.{◌≡◌, refl, ℕ, suc, [], ◌∷◌, length, arith, int_cmp, nat_cmp, Ordering, Day, day_number, insert_entry, ordering_then, pays_before, on, Declared, AreBelow, Placed, dividends_of}
use Rattle.cns_terms.specs.Sums.{put}

-- the order of places: by the day, then by the number
abbrev pub place_cmp : Day × ℕ → Day × ℕ → Ordering
place_cmp x y = ordering_then (on day_number int_cmp x.0 y.0) (nat_cmp x.1 y.1)

-- a dividend with the highest number goes behind those of its day
dividends_insert : (n : ℕ) (d : Declared) (es : Placed) → AreBelow n es → dividends_of (insert_entry place_cmp es (d.payable, n) d) ≡ put pays_before d (dividends_of es)
dividends_insert n d [] h = refl
dividends_insert n d (e ∷ es) h = grind (arith, dividends_insert n d es h.2)

-- it is one more
length_insert : (n : ℕ) (d : Declared) (es : Placed) → AreBelow n es → length (insert_entry place_cmp es (d.payable, n) d) ≡ suc (length es)
length_insert n d [] h = refl
length_insert n d (e ∷ es) h = grind (arith, length_insert n d es h.2)

-- numbers below a count are below the next
raised : (n : ℕ) (es : Placed) → AreBelow n es → AreBelow (suc n) es
raised n [] h = tt
raised n (e ∷ es) h = grind (arith, raised n es h.2)

-- all numbers are below the next
below_insert : (n : ℕ) (d : Declared) (es : Placed) → AreBelow n es → AreBelow (suc n) (insert_entry place_cmp es (d.payable, n) d)
below_insert n d [] h = grind arith
below_insert n d (e ∷ es) h = grind (arith, raised, below_insert n d es h.2)

-- after one more declaration the numbers are still below the count, and the dividends are those from before, with the new one in its place
pub declared : (n : ℕ) (d : Declared) (es new : Placed) → n ≡ length es → AreBelow (length es) es → new ≡ insert_entry place_cmp es (d.payable, n) d → AreBelow (length new) new × (dividends_of new ≡ put pays_before d (dividends_of es))
declared n d es new count below is = grind (arith, dividends_insert n d es, length_insert n d es, below_insert n d es)
