-- Searches for a closed day by its date.
-- For `place`, `count_by`, `as_of` and `find` of closed_days.rt, and `sheet` of parts/reading.rt.
use Rattle.cns_book.proofs.Common.{◌≡◌, ◌∙◌, ap, refl, ℕ, zero, suc, ◌+◌, ◌-◌, ◌<◌, ◌≤◌, ℤ, Bool, true, false, cond, List, [], ◌∷◌, length, get_or, map, reverse, find, Some, None, Result, IfOk, IfErr, arith, int_lt, option_map, HoldsAt, int_cmp, Ordering, Activity, AllWithin, Contents, Day, DaySheet, Follows, IsBinarySearchResult, IsNonDecreasingBy, IsPartitionPoint, cases_lt, closings, day_number, day_sheet, ints, is_dated, is_dated_by, journal, length-map, length-reverse, ordering_index, reverse_onto, sheet_as_of, sheet_on, get_or-map, get_or-reverse, less_less, AreFalling, dated_sheet}
use Rattle.std.specs.List.Sorted.{IsPartitionedBy}
use Rattle.std.proofs.lemmas.List.Folds.{find-append}
use Rattle.std.specs.Option.{option_or}

-- the number of a sheet's day
abbrev pub number : DaySheet → ℤ
number s = day_number s.date

-- days further back are earlier
falls : (ss : List DaySheet) (i j : ℕ) (e o : DaySheet) → AreFalling ss → i < j → j < length ss → int_lt (number (get_or ss j e)) (number (get_or ss i o)) ≡ true
falls [] i j e o f p q = absurd (omega arith)
falls (s ∷ ss) i zero e o f p q = absurd (omega arith)
falls (s ∷ ss) (suc i) (suc j) e o f p q = falls ss i j e o f.1 (omega arith) (omega arith)
falls (s ∷ []) zero (suc j) e o f p q = absurd (omega arith)
falls (s ∷ t ∷ ss) zero (suc zero) e o f p q = f.0
falls (s ∷ t ∷ ss) zero (suc (suc j)) e o f p q = less_less _ (number t) _ (falls (t ∷ ss) zero (suc j) e t f.1 (omega arith) (omega arith)) f.0

module _ {X Y : Type 0} (f : X → Y) where
  -- ---- a look from the last back

  -- one from the first on, among those from the last back
  mirrored : (xs : List X) (i : ℕ) (e : X) → i < length xs → get_or (reverse (map f xs)) (length xs - 1 - i) (f e) ≡ f (get_or xs i e)
  mirrored xs i e h =
      let back : length (map f xs) - 1 - (length xs - 1 - i) ≡ i = omega (arith, length-map xs f) in
      get_or-reverse (map f xs) (length xs - 1 - i) (f e) (omega (arith, length-map xs f)) ∙ rw back (get_or-map f xs i e (f e) h)

  module _ (p : Y → Bool) where
    -- what is found with one more, which is looked at last
    one_more : (x : X) (xs : List X) → find p (reverse (map f (x ∷ xs))) ≡ option_or (find p (reverse (map f xs))) (cond (p (f x)) (Some (f x)) None)
    one_more x xs = ap (find p) (reverse_onto (map f xs) (f x) []) ∙ find-append p (reverse (map f xs)) (f x ∷ [])

    -- where none passes, none is found
    pub nowhere_back : (xs : List X) → AllWithin (λ x. p (f x) ≡ false) xs 0 (length xs) → None ≡ find p (reverse (map f xs))
    nowhere_back [] h = refl
    nowhere_back (x ∷ xs) h = grind (arith, one_more x xs, nowhere_back xs (λ j e l k. h (suc j) e (omega arith) (omega arith)), h 0 x (omega arith) (omega arith))

    -- what passes is found, where none behind it does
    pub found_back : (xs : List X) (i : ℕ) (e : X) → i < length xs → p (f (get_or xs i e)) ≡ true → AllWithin (λ x. p (f x) ≡ false) xs (i + 1) (length xs) → Some (f (get_or xs i e)) ≡ find p (reverse (map f xs))
    found_back [] i e lt h behind = absurd (omega arith)
    found_back (x ∷ xs) zero e lt h behind = grind (arith, one_more x xs, nowhere_back xs (λ j o l k. behind (suc j) o (omega arith) (omega arith)))
    found_back (x ∷ xs) (suc i) e lt h behind = grind (arith, one_more x xs, found_back xs i e (omega arith) h (λ j o l k. behind (suc j) o (omega arith) (omega arith)))

module _ {X : Type 0} (f : X → DaySheet) (d : Day) where
  -- ---- a search by date

  -- days further on are later
  later : (xs : List X) (i j : ℕ) (e o : X) → AreFalling (reverse (map f xs)) → i < j → j < length xs → int_lt (number (f (get_or xs i e))) (number (f (get_or xs j o))) ≡ true
  later xs i j e o falling p lt =
      rw (← mirrored f xs i e (omega arith), ← mirrored f xs j o lt) (falls (reverse (map f xs)) (length xs - 1 - j) (length xs - 1 - i) (f e) (f o) falling (omega arith) (omega (arith, length-reverse (map f xs), length-map xs f)))

  abbrev pub compared : X → Ordering
  compared x = int_cmp (number (f x)) (day_number d)

  -- from the oldest on, the comparisons rise
  compared_rise : (xs : List X) → AreFalling (reverse (map f xs)) → IsNonDecreasingBy (λ x. ordering_index (compared x)) xs
  compared_rise xs falling i j e le lt = grind (arith, ints, cases_lt i j, later xs i j e e falling)

  -- those of days on or before the date come first
  pub dated_parted : (xs : List X) → AreFalling (reverse (map f xs)) → IsPartitionedBy (λ x. is_dated_by d (f x)) xs
  dated_parted xs falling i j e le lt h = let rise = compared_rise xs falling i j e le lt in grind (arith, ints)

  -- where no day is on or before the date, no sheet is found
  pub none_as_of : (xs : List X) (n : ℕ) → n ≡ 0 → IsPartitionPoint (λ x. is_dated_by d (f x) ≡ true) (λ x. is_dated_by d (f x) ≡ false) xs n → None ≡ sheet_as_of (reverse (map f xs)) d
  none_as_of xs n is h = nowhere_back f (is_dated_by d) xs (λ i e p q. h.1 i e (omega (arith, is)) q)

  -- else the last of the first so many
  pub found_as_of : (xs : List X) (n : ℕ) (x : X) → (n ≡ 0 → ⊥) → n ≤ length xs → IsPartitionPoint (λ x. is_dated_by d (f x) ≡ true) (λ x. is_dated_by d (f x) ≡ false) xs n → x ≡ get_or xs (n - 1) x → Some (f x) ≡ sheet_as_of (reverse (map f xs)) d
  found_as_of xs n x some le h is = grind (arith, found_back)

  pub found_at : (xs : List X) (r : Result ℕ ℕ) → IsBinarySearchResult compared xs r → IfOk r (HoldsAt (λ x. is_dated d (f x) ≡ true) xs)
  found_at xs r h1 = grind (arith, ints)

  pub found_nowhere : (xs : List X) (r : Result ℕ ℕ) → AreFalling (reverse (map f xs)) → IsBinarySearchResult compared xs r → IfErr r (λ _. AllWithin (λ x. is_dated d (f x) ≡ false) xs 0 (length xs))
  found_nowhere xs r h1 h2 = grind (arith, compared_rise, cases_lt)

  -- what stands at the place is what a look from the newest back finds
  pub sheet_at : (xs : List X) (i : ℕ) (e : X) → AreFalling (reverse (map f xs)) → i < length xs → is_dated d (f (get_or xs i e)) ≡ true → Some (f (get_or xs i e)) ≡ dated_sheet (reverse (map f xs)) d
  sheet_at xs i e falling lt h = found_back f (is_dated d) xs i e lt h (λ j o p q. let less = later xs i j e o falling (omega arith) q in grind (arith, ints))

-- what is found among images is the image of what is found
find_image : {X Y : Type 0} (f : X → Y) (p : Y → Bool) (xs : List X) → find p (map f xs) ≡ option_map f (find (λ x. p (f x)) xs)
find_image f p [] = refl
find_image f p (x ∷ xs) = grind (arith, find_image f p xs)

-- the sheet of the day with a date
pub sheet_found : (L : List Activity) (s : Contents) (d : Day) → Follows L s → dated_sheet s.sheets d ≡ sheet_on s.opening (journal s.opening L) d
sheet_found L s d f = rw f.sheets (find_image (day_sheet s.opening) (is_dated d) (closings (journal s.opening L)))
