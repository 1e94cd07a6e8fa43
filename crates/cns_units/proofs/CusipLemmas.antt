-- The sum over a CUSIP's characters, one after another.
use Rattle.cns_units.proofs.Common.{◌≡◌, ℕ, ◌+◌, ◌<◌, Bool, not, List, length, get_or, drop, Option, Some, None, option_map, refl, add-one, add-zero, arith, drop-cons, ◌≤◌, character_value, weight, plus, after_value, drop_all, sum_of}

sum_at : (doubled : Bool) (bs : List ℕ) (i : ℕ) → i < length bs
    → sum_of doubled (drop i bs) ≡ after_value doubled (character_value (get_or bs i 0)) (sum_of (not doubled) (drop (i + 1) bs))
unfolding sum_of
sum_at doubled bs i lt = rw (add-one, drop-cons bs i 0 lt) refl

pub sum_step : (doubled : Bool) (bs : List ℕ) (i sum w : ℕ) (whole : Option ℕ) → i < length bs → plus sum (sum_of doubled (drop i bs)) ≡ whole → Some w ≡ option_map (weight doubled) (character_value (get_or bs i 0))
    → plus (sum + w) (sum_of (not doubled) (drop (i + 1) bs)) ≡ whole
sum_step doubled bs i sum w whole h1 h2 h3 = grind (arith, sum_at, after_value, plus, option_map, weight)

pub sum_stop : (doubled : Bool) (bs : List ℕ) (i sum : ℕ) (whole : Option ℕ) → i < length bs → plus sum (sum_of doubled (drop i bs)) ≡ whole → None ≡ option_map (weight doubled) (character_value (get_or bs i 0)) → None ≡ whole
sum_stop doubled bs i sum whole lt inv is = grind (arith, sum_at doubled bs i lt)

pub sum_all : (doubled : Bool) (bs : List ℕ) (i sum : ℕ) (whole : Option ℕ) → length bs ≤ i → plus sum (sum_of doubled (drop i bs)) ≡ whole → Some sum ≡ whole
unfolding sum_of
sum_all doubled bs i sum whole le inv = rw (drop_all i bs le, add-zero) at inv
