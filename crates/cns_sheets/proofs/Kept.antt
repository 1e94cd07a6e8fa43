-- What a sheet keeps of the rows that it is built from.
-- For `build` of sheet.rt.
use Rattle.cns_sheets.proofs.Common.{◌≡◌, ◌∙◌, Bool, false, cond, row_key, ap, refl, ℕ, ℤ, pos, true, Option, Some, option_map, unwrap_or, Holding, zeros, List, [], ◌∷◌, map, filter, None, nat_cmp, arith, CentsByKey, Cusip, IsCut, Key, Listed, Paying, PriceList, Row, Rows, Woven, by_key, cents_at, dividend_of, find, find_filter, held_above, held_same, is_held, is_sorted, key_cmp, keys_total, listed_above, price_in, says, slice_cmp, sorted_filter, weave, woven_row, woven_rows}
use Rattle.cns_sheets.proofs.Entries.{find_keyed, sorted_if, sorted_keyed}
use Rattle.cns_sheets.proofs.Weaving.{both_at, find_weave, sorted_weave}
use Rattle.cns_terms.proofs.Finds.{kept_if}
use Rattle.cns_sheets.specs.Build.{priced_row}
use Rattle.cns_sheets.specs.Payments.{said}

-- the list of prices is in the order of issues
pub prices_rise : (es : Listed) → is_sorted (slice_cmp nat_cmp) es ≡ true → is_sorted (slice_cmp nat_cmp) (listed_above es None) ≡ true
prices_rise es s = rw (sorted_keyed (slice_cmp nat_cmp) (λ e. e.1.price) (filter (λ e. true) es)) (sorted_if (slice_cmp nat_cmp) (λ c. true) es s)

-- the list shows the price of each issue
pub listed_found : (c : Cusip) (es : Listed) → find (slice_cmp nat_cmp) c (listed_above es None) ≡ price_in es c
listed_found c [] = refl
listed_found c (e ∷ es) = grind (arith, listed_found c es)

-- ---- rows

-- a row with its key, if it is kept
keyed_if : (b : Bool) (r : Row) (rows : List Row) → by_key (cond b (r ∷ rows) rows) ≡ cond b ((row_key r, r) ∷ by_key rows) (by_key rows)
keyed_if true r rows = refl
keyed_if false r rows = refl

module _ (before now : PriceList) where
  -- the rows that say something, with their keys
  with_keys : (es : Woven) → by_key (woven_rows before now es) ≡ filter (λ e. says e.1) (map (λ e. (e.0, woven_row before now e)) es)
  with_keys [] = refl
  with_keys (e ∷ es) = keyed_if (says (woven_row before now e)) (woven_row before now e) (woven_rows before now es) ∙ ap (λ rows. cond (says (woven_row before now e)) ((e.0, woven_row before now e) ∷ rows) rows) (with_keys es)

-- the row of a holding and cents, if there is either, where it says something
kept_said : (r : Row) → kept_if says (Some r) ≡ said r
kept_said r = grind arith

said_at : (p q q' : ℕ) (n : ℤ) (h : Holding) (k : Key) (a : Option Holding) (o : Option ℤ) → q ≡ q' → unwrap_or o (pos 0) ≡ n → unwrap_or a zeros ≡ h → kept_if says (option_map (λ v. priced_row p q v.1 (k, v.0)) (both_at a o)) ≡ said (priced_row p q' n (k, h))
said_at p q q' n h k None None is cents held = rw (← is, ← cents, ← held) refl
said_at p q q' n h k None (Some c) is cents held = rw (← is, ← cents, ← held) (kept_said (priced_row p q c (k, zeros)))
said_at p q q' n h k (Some g) o is cents held = rw (← is, ← cents, ← held) (kept_said (priced_row p q (unwrap_or o (pos 0)) (k, g)))

-- the rows of holdings and of the cents that dividends book are those that a close cuts
pub rows_cut : {before earlier now : PriceList} {rows : List Row} (prices : Listed) (R : Rows) (ps : List Paying) (cs : CentsByKey) → is_sorted key_cmp R ≡ true → is_sorted key_cmp cs ≡ true → ((k : Key) → cents_at cs k ≡ dividend_of ps k)
    → earlier ≡ before → now ≡ listed_above prices None → rows ≡ woven_rows earlier now (weave (held_above R None) cs) → IsCut before prices R ps rows
rows_cut {before} prices R ps cs s t cents earlier_is now_is is =
    let now = listed_above prices None in
    let rise = sorted_filter keys_total is_held R s in
    let es : List (Key × Row) = map (λ e. (e.0, woven_row before now e)) (weave (held_above R None) cs) in
    let order : is_sorted key_cmp es ≡ true = rw (sorted_keyed key_cmp (woven_row before now) (weave (held_above R None) cs)) (sorted_weave (held_above R None) cs rise t) in
    rw (is, earlier_is, now_is) (record {
      order = rw (with_keys before now (weave (held_above R None) cs)) (sorted_filter keys_total says es order);
      each = λ k. ap (find key_cmp k) (with_keys before now (weave (held_above R None) cs)) ∙ find_filter keys_total says k es order
          ∙ ap (kept_if says) (find_keyed (woven_row before now) k (weave (held_above R None) cs) ∙ ap (option_map (λ v. woven_row before now (k, v))) (find_weave k (held_above R None) cs rise))
          ∙ said_at _ _ _ _ _ k (find key_cmp k (held_above R None)) (find key_cmp k cs) (ap (λ p. unwrap_or p 0) (listed_found k.issue prices)) (cents k) (held_same R k s);
    })
