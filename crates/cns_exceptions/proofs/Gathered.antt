-- Lists that are gathered item by item.
-- For `counts_of` of counts.rt; `rank` and `look_back` of survey.rt.
use Rattle.cns_exceptions.proofs.Common.{◌≡◌, ◌∙◌, ◌-◌, ap, sym, take, List, [], ◌∷◌, map, ℕ, ◌+◌, ◌++◌, add-one, append-nil, ne_eqb, map-append, count_at, count_shown, counted, arith, length, refl, length-map, with_items_is, known, looked_at, looked_back, looked_for, told, with_found, Finding, Survey, Outcome, Taken, counts_below}
use Rattle.cns_exceptions.specs.declared.counts.Counted.{Counted}
use Rattle.std.proofs.lemmas.List.{take-map}
use Rattle.std.specs.Vec.{with_items}

-- a kind that there is any of
pub one_more : (n : ℕ) (os : List Outcome) (cs : List Counted) (c : Counted) (count : ℕ) → count ≡ count_at n os → (count ≡ 0 → ⊥)
    → counted c ≡ (n, count) → map counted cs ≡ counts_below n os → map counted (cs ++ c ∷ []) ≡ counts_below (n + 1) os
unfolding counts_below
one_more n os cs c count h1 h2 h3 h4 = grind (arith, count_at, ne_eqb, count_shown, counted, map-append, add-one)

-- a kind that there is none of
pub none_more : (n : ℕ) (os : List Outcome) (cs : List Counted) (count : ℕ) → count ≡ count_at n os → count ≡ 0
    → map counted cs ≡ counts_below n os → map counted cs ≡ counts_below (n + 1) os
unfolding counts_below
none_more n os cs count h1 h2 h3 = grind (arith, count_at, count_shown, append-nil, counts_below, add-one)

-- what is told of exceptions with the accepted trades that have their references
told_found : (ns : List ℕ) (ts : List Taken) (fs : List Finding) → map told (map (with_found ns ts) fs) ≡ map (looked_for ns ts) (map told fs)
told_found ns ts [] = refl
told_found ns ts (f ∷ fs) = ap (λ es. looked_for ns ts (told f) ∷ es) (told_found ns ts fs)

-- what is known with them
pub findings_looked_for : (s : Survey) (H : List Taken) (fs : List Finding) → length s.findings.items ≡ s.findings.len → fs ≡ map (with_found s.invalid.items (looked_at H)) s.findings.items
    → known (record s { findings = with_items s.findings fs }) ≡ looked_back H (known s)
findings_looked_for s H fs long is = grind (arith, with_items_is, length, length-map, known, map, told, told_found)

-- questions behind others
pub questions_last : (fs qs : List Finding) (n : ℕ) → n ≡ 200 - length fs → map told (fs ++ take n qs) ≡ map told fs ++ take (200 - length (map told fs)) (map told qs)
questions_last fs qs n is =
    map-append told fs (take n qs)
    ∙ ap (λ e. map told fs ++ e) (sym (take-map told n qs) ∙ ap (λ k. take k (map told qs)) (is ∙ ap (λ k. 200 - k) (sym (length-map fs told))))
