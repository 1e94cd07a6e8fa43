-- The digits of a whole number, added one after another.
-- For `write_digits` of grouped.rt.
use Rattle.cns_tables.proofs.Common.{◌≡◌, ℕ, ◌+◌, ◌-◌, ◌<◌, List, ◌++◌, get_or, length, drop, add-one, drop-cons, length-drop, append_assoc, arith, digit_text, grouped}

-- the digits from a place on
digits_from : (ds : List ℕ) (i d : ℕ) → i < length ds → grouped (drop i ds) ≡ digit_text (get_or ds i d) (length ds - i - 1) ++ grouped (drop (i + 1) ds)
digits_from ds i d h1 = grind (arith, length, drop, length-drop, get_or, add-one, drop-cons, grouped, digit_text)

-- one more was added
pub digits_more : (all old new ds : List ℕ) (i d : ℕ) → i < length ds → all ≡ old ++ grouped (drop i ds)
    → new ≡ old ++ digit_text (get_or ds i d) (length ds - i - 1) → all ≡ new ++ grouped (drop (i + 1) ds)
digits_more all old new ds i d lt whole more = grind (arith, append_assoc, digits_from ds i d lt)
