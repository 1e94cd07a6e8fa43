-- The marks of a sheet add up to zero.
-- For `build` of sheet.rt.
use Rattle.cns_sheets.proofs.Common.{◌&&◌, ◌≡◌, ◌∙◌, sym, ap, refl, ℕ, ℤ, pos, ◌+ℤ◌, ◌-ℤ◌, ◌*ℤ◌, neg_ℤ, Bool, true, false, not, cond, List, [], ◌∷◌, map, filter, Option, unwrap_or, arith, int_eq, AreBalanced, CanBeCut, CentsByKey, Cusip, DaySheet, Holding, IsCut, Key, Listed, Paying, Row, Rows, by_key, bytes_eq-Decides, cents_at, closing_in, cut_row, dividend_of, exact_keys, find, find_filter, held_in, idle_parts, ints, is_sorted, key_cmp, row_key, keys_total, marked, option_map_or, price_in, price_on, prices_of, row_at, rows_before, same_issue, same_lists, says, sorted_filter, total, total-add, total-map, total-neg, total-same, worth, zero-*ℤ, zero_add}
use Rattle.std.proofs.Math.IntN.{+ℤ_assoc, +ℤ_comm}
use Rattle.cns_terms.proofs.ZeroSums.{times_sum}
use Rattle.cns_sheets.proofs.Entries.{find_keyed, sorted_keyed}

-- ---- sums by issue

module _ {X : Type 0} (issue : X → Cusip) (f : X → ℤ) where
  -- a number, if it is in the issue
  abbrev in_issue : Cusip → X → ℤ
  in_issue c x = cond (same_issue (issue x) c) (f x) (pos 0)

  module _ (w : Cusip → ℕ) where
    -- by a price for each issue, if a test keeps the issue
    abbrev weighed : (Cusip → Bool) → X → ℤ
    weighed t x = cond (t (issue x)) (f x *ℤ pos (w (issue x))) (pos 0)

    -- a sum is that of one issue and that of the others
    split : (t : Cusip → Bool) (c : Cusip) (xs : List X) → total (weighed t) xs ≡ cond (t c) (total (in_issue c) xs *ℤ pos (w c)) (pos 0) +ℤ total (weighed (λ d. t d && not (same_issue d c))) xs
    split t c [] = grind (arith, ints, zero-*ℤ (pos (w c)))
    split t c (x ∷ xs) = grind (arith, zero_add, +ℤ_assoc, +ℤ_comm, bytes_eq-Decides (issue x) c, times_sum (f x) (total (in_issue c) xs) (w c), split t c xs)

    -- what adds up to zero in each issue that is kept does so by a price for each issue
    kept_zero : (t : Cusip → Bool) (xs : List X) → ((c : Cusip) → t c ≡ true → total (in_issue c) xs ≡ pos 0) → total (weighed t) xs ≡ pos 0
    kept_zero t [] h = refl
    kept_zero t (x ∷ xs) h = grind (arith, ints, split t (issue x) xs, times_sum (f x) (total (in_issue (issue x)) xs) (w (issue x)), zero-*ℤ (pos (w (issue x))), bytes_eq-Decides (issue x) (issue x), h (issue x), kept_zero (λ d. t d && not (same_issue d (issue x))) xs (λ c q. grind (arith, ints, bytes_eq-Decides (issue x) c, bytes_eq-Decides c (issue x), h c)))

  -- and as it is
  zero_by_issue : (xs : List X) → ((c : Cusip) → total (in_issue c) xs ≡ pos 0) → total f xs ≡ pos 0
  zero_by_issue xs h = total-same f (λ x. f x *ℤ pos 1) xs (λ x. omega (arith, ints)) ∙ kept_zero (λ c. 1) (λ c. true) xs (λ c q. h c)

-- ---- two lists of numbers by keys that answer alike

-- a number that is not zero
abbrev counts : ℤ → Bool
counts n = not (int_eq n (pos 0))

-- the numbers in an issue
abbrev pub numbers_in : Cusip → Key × ℤ → ℤ
numbers_in c e = cond (same_issue e.0.issue c) e.1 (pos 0)

module _ (f : Key × ℤ → ℤ) (nothing : (k : Key) → f (k, pos 0) ≡ pos 0) where
  -- zeros add nothing
  counted : (xs : List (Key × ℤ)) → total f (filter (λ e. counts e.1) xs) ≡ total f xs
  counted [] = refl
  counted (e ∷ xs) = grind (arith, ints, nothing e.0, counted xs)

  -- they have the same sums
  pub same_sums : (xs ys : List (Key × ℤ)) → is_sorted key_cmp xs ≡ true → is_sorted key_cmp ys ≡ true → ((k : Key) → unwrap_or (find key_cmp k xs) (pos 0) ≡ unwrap_or (find key_cmp k ys) (pos 0)) → total f xs ≡ total f ys
  same_sums xs ys s t h =
      sym (counted xs)
      ∙ ap (total f) (same_lists keys_total exact_keys _ _ (sorted_filter keys_total counts xs s) (sorted_filter keys_total counts ys t) (λ k. grind (arith, find_filter keys_total counts k xs s, find_filter keys_total counts k ys t, h k)))
      ∙ counted ys

-- none of an issue
pub none_in : (c : Cusip) (k : Key) → numbers_in c (k, pos 0) ≡ pos 0
none_in c k = grind arith

-- ---- one number of each value

module _ {V : Type 0} (f : V → ℤ) where
  abbrev pub numbers : List (Key × V) → List (Key × ℤ)
  numbers es = map (λ e. (e.0, f e.1)) es

  pub sorted_numbers : (es : List (Key × V)) → is_sorted key_cmp es ≡ true → is_sorted key_cmp (numbers es) ≡ true
  sorted_numbers es h = rw (sorted_keyed key_cmp (λ e. f e.1) es) h

  pub found_number : (k : Key) (n : ℤ) (es : List (Key × V)) → unwrap_or (find key_cmp k (numbers es)) n ≡ option_map_or f (find key_cmp k es) n
  found_number k n es = grind (arith, find_keyed (λ e. f e.1) k es)

  pub total_numbers : (s : Key × ℤ → ℤ) (es : List (Key × V)) → total s (numbers es) ≡ total (λ e. s (e.0, f e.1)) es
  total_numbers s es = total-map s (λ e. (e.0, f e.1)) es

-- numbers that rows and a list have alike at each key
same_numbers : {V : Type 0} (g : Row → ℤ) (f : Key × V → ℤ) (s : Key × ℤ → ℤ) → ((k : Key) → s (k, pos 0) ≡ pos 0) → (rows : List Row) (es : List (Key × V)) → is_sorted key_cmp (by_key rows) ≡ true → is_sorted key_cmp es ≡ true
    → ((k : Key) → option_map_or g (row_at rows k) (pos 0) ≡ option_map_or (λ v. f (k, v)) (find key_cmp k es) (pos 0)) → total (λ r. s (row_key r, g r)) rows ≡ total (λ e. s (e.0, f e)) es
same_numbers g f s nothing rows es a b h =
    sym (total_numbers g s (by_key rows) ∙ total-map (λ (e : Key × Row). s (e.0, g e.1)) (λ r. (row_key r, r)) rows)
    ∙ same_sums s nothing (numbers g (by_key rows)) (map (λ e. (e.0, f e)) es) (sorted_numbers g (by_key rows) a) (rw (sorted_keyed key_cmp f es) b) (λ k. grind (arith, found_number g k (pos 0) (by_key rows), find_keyed f k es, h k))
    ∙ total-map s (λ e. (e.0, f e)) es

-- ---- rows, holdings and cents

-- by the rule of marks, where there are no positions and no cents there is no mark
no_mark : (p q : ℕ) → (worth (pos 0) p -ℤ worth (pos 0) q) +ℤ pos 0 ≡ pos 0
no_mark p q = rw (zero-*ℤ (pos p), zero-*ℤ (pos q)) refl

module _ (before : Option DaySheet) (prices : Listed) (R : Rows) (ps : List Paying) (rows : List Row) (sorted : is_sorted key_cmp R ≡ true) (rise : is_sorted key_cmp (by_key (rows_before before)) ≡ true)
    (closed : (c : Cusip) → total (closing_in c) (rows_before before) ≡ pos 0) (ready : CanBeCut before prices R ps) (cut : IsCut (prices_of before) prices R ps rows) where
  abbrev price_now : Cusip → ℕ
  price_now c = unwrap_or (price_in prices c) 0

  abbrev price_then : Cusip → ℕ
  price_then c = unwrap_or (price_on (prices_of before) c) 0

  -- the mark of a key's holding
  abbrev mark_of : Key × Holding → ℤ
  mark_of e = marked e.1.opening e.1.now (price_then e.0.issue) (price_now e.0.issue) e.1.contract

  -- the row that the close cuts at a key
  abbrev row_of : Key → Row
  row_of k = cut_row (prices_of before) prices R ps k

  -- a number of it
  number_at : (f : Row → ℤ) (k : Key) → (says (row_of k) ≡ false → f (row_of k) ≡ pos 0) → option_map_or f (row_at rows k) (pos 0) ≡ f (row_of k)
  number_at f k idle = grind (arith, cut.each k, idle)

  -- the openings of an issue add up to zero, as the closings before did
  openings : (c : Cusip) → total (held_in (λ h. h.opening) c) R ≡ pos 0
  openings c = sym (same_numbers (λ r. r.closing) (λ e. e.1.opening) (numbers_in c) (none_in c) (rows_before before) R rise sorted (λ k. grind (arith, ready.openings k))) ∙ closed c

  -- the marks of holdings add up to zero
  marks : total mark_of R ≡ pos 0
  marks =
      total-add (λ e. worth e.1.now (price_now e.0.issue) -ℤ worth e.1.opening (price_then e.0.issue)) (λ e. e.1.contract) R
      ∙ rw (
        total-add (λ e. worth e.1.now (price_now e.0.issue)) (λ e. neg_ℤ (worth e.1.opening (price_then e.0.issue))) R,
        total-neg (λ e. worth e.1.opening (price_then e.0.issue)) R,
        kept_zero (λ e. e.0.issue) (λ e. e.1.now) price_now (λ c. true) R (λ c q. ready.shares c),
        kept_zero (λ e. e.0.issue) (λ e. e.1.opening) price_then (λ c. true) R (λ c q. openings c),
        zero_by_issue (λ e. e.0.issue) (λ e. e.1.contract) R ready.cents,
      ) refl

  -- what a sheet keeps of sums holds of the rows that are cut
  pub cut_balanced : (cs : CentsByKey) → is_sorted key_cmp cs ≡ true → total (λ e. e.1) cs ≡ pos 0 → ((k : Key) → cents_at cs k ≡ dividend_of ps k) → AreBalanced rows
  cut_balanced cs cents_rise none cents = record {
    closings = λ c. same_numbers (λ r. r.closing) (λ e. e.1.now) (numbers_in c) (none_in c) rows R cut.order sorted (λ k. grind (arith, number_at (λ r. r.closing) k (λ h. (idle_parts (row_of k) h).1))) ∙ ready.shares c;
    marks = same_numbers (λ r. r.mark) mark_of (λ e. e.1) (λ k. refl) rows R cut.order sorted (λ k. grind (arith, no_mark (price_now k.issue) (price_then k.issue), number_at (λ r. r.mark) k (λ h. let p = idle_parts (row_of k) h in rw (p.0, p.1, p.2) (no_mark (price_now k.issue) (price_then k.issue))))) ∙ marks;
    dividends = same_numbers (λ r. r.dividend) (λ e. e.1) (λ e. e.1) (λ k. refl) rows cs cut.order cents_rise (λ k. grind (arith, cents k, number_at (λ r. r.dividend) k (λ h. (idle_parts (row_of k) h).3))) ∙ none;
  }
