-- The tables of weights have what the definition says of each character.
use Rattle.cns_units.proofs.Common.{◌≡◌, ◌∙◌, ap, refl, ℕ, zero, suc, ◌+◌, ◌<◌, ◌%◌, Bool, true, false, ◌&&◌, cond, eqb, List, [], ◌∷◌, length, get_or, Option, Some, None, option_map, arith, character_value, weight, zero-add, nat_tests}

-- the tables, from the character 35 on
abbrev pub plain : List ℕ
plain = 11 ∷ 255 ∷ 255 ∷ 255 ∷ 255 ∷ 255 ∷ 255 ∷ 9 ∷ 255 ∷ 255 ∷ 255 ∷ 255 ∷ 255 ∷ 0 ∷ 1 ∷ 2 ∷ 3 ∷ 4 ∷ 5 ∷ 6 ∷ 7 ∷ 8 ∷ 9 ∷ 255 ∷ 255 ∷ 255 ∷ 255 ∷ 255 ∷ 255 ∷ 10 ∷ 1 ∷ 2 ∷ 3 ∷ 4 ∷ 5 ∷ 6 ∷ 7 ∷ 8 ∷ 9 ∷ 10 ∷ 2 ∷ 3 ∷ 4 ∷ 5 ∷ 6 ∷ 7 ∷ 8 ∷ 9 ∷ 10 ∷ 11 ∷ 3 ∷ 4 ∷ 5 ∷ 6 ∷ 7 ∷ 8 ∷ []

abbrev pub twice : List ℕ
twice = 13 ∷ 255 ∷ 255 ∷ 255 ∷ 255 ∷ 255 ∷ 255 ∷ 9 ∷ 255 ∷ 255 ∷ 255 ∷ 255 ∷ 255 ∷ 0 ∷ 2 ∷ 4 ∷ 6 ∷ 8 ∷ 1 ∷ 3 ∷ 5 ∷ 7 ∷ 9 ∷ 255 ∷ 255 ∷ 255 ∷ 255 ∷ 255 ∷ 255 ∷ 11 ∷ 2 ∷ 4 ∷ 6 ∷ 8 ∷ 10 ∷ 3 ∷ 5 ∷ 7 ∷ 9 ∷ 11 ∷ 4 ∷ 6 ∷ 8 ∷ 10 ∷ 12 ∷ 5 ∷ 7 ∷ 9 ∷ 11 ∷ 13 ∷ 6 ∷ 8 ∷ 10 ∷ 12 ∷ 14 ∷ 7 ∷ []

-- what a character adds, if it has a value
abbrev pub weighed : Bool → ℕ → Option ℕ
weighed doubled c = option_map (weight doubled) (character_value c)

-- what an entry of a table says
abbrev pub told : ℕ → Option ℕ
told w = cond (eqb w 255) None (Some w)

-- whether entries say the same
abbrev same : Option ℕ → Option ℕ → Bool
same None None = true
same None (Some b) = false
same (Some a) None = false
same (Some a) (Some b) = eqb a b

-- whether entries are right, of which the first is that of a character
abbrev agree : Bool → List ℕ → ℕ → Bool
agree doubled [] c = true
agree doubled (w ∷ ws) c = same (told w) (weighed doubled c) && agree doubled ws (suc c)

agree_at : (doubled : Bool) (ws : List ℕ) (c p : ℕ) → agree doubled ws c ≡ true → p < length ws → told (get_or ws p 0) ≡ weighed doubled (p + c)
agree_at doubled [] c p h lt = absurd (omega (arith, lt))
agree_at doubled (w ∷ ws) c zero h lt = rw zero-add (same-true (told w) (weighed doubled c) (grind (arith, h)))
  where
    same-true : (a b : Option ℕ) → same a b ≡ true → a ≡ b
    same-true a b h = grind (arith, nat_tests, h)
agree_at doubled (w ∷ ws) c (suc p) h lt =
    let same_place : p + suc c ≡ suc p + c = omega arith in
    agree_at doubled ws (suc c) p (grind (arith, h)) (omega (arith, lt)) ∙ ap (weighed doubled) same_place

-- the table of one kind of weights
abbrev pub table : Bool → List ℕ
table true = twice
table false = plain

-- the entry of a character
entry : (doubled : Bool) (c p : ℕ) → p ≡ (c + 221) % 256 → c < 256 → p < 56 → told (get_or (table doubled) p 0) ≡ weighed doubled c
entry doubled c p is small lt =
    let here : p + 35 ≡ c = omega (arith, is, small, lt) in
    first doubled ∙ ap (weighed doubled) here
  where
    first : (doubled : Bool) → told (get_or (table doubled) p 0) ≡ weighed doubled (p + 35)
    first true = agree_at true twice 35 p refl lt
    first false = agree_at false plain 35 p refl lt

-- a character without a value, and one with a value
pub no_weight : (doubled : Bool) (c p w : ℕ) → p ≡ (c + 221) % 256 → c < 256 → p < 56 → w ≡ get_or (table doubled) p 0 → w ≡ 255 → None ≡ weighed doubled c
no_weight doubled c p w is small lt read none = grind (arith, nat_tests, entry doubled c p is small lt)

pub some_weight : (doubled : Bool) (c p w : ℕ) → p ≡ (c + 221) % 256 → c < 256 → p < 56 → w ≡ get_or (table doubled) p 0 → (w ≡ 255 → ⊥) → Some w ≡ weighed doubled c
some_weight doubled c p w is small lt read some = grind (arith, nat_tests, entry doubled c p is small lt)
