-- Lists and maps that are gathered item by item, of lines or of a history.
-- For `add_entry` and `add_line` of day_moves.rt; `add_side` of due.rt in cns_day, `add` of issues.rt in cns_day; `note_accepted` of accepted.rt in cns_exceptions, `live_notices` of notices.rt in cns_day.
use Rattle.cns_account.proofs.Common.{◌≡◌, ◌∙◌, sym, ap, ℕ, ◌+◌, ◌<◌, List, [], ◌∷◌, ◌++◌, Option, take, take-suc, cond, Some, unwrap_or, is_eq, Ordering, arith, equal, suc, ◌-◌, ◌^◌, ◌≤◌, None, reverse, slice_get, take_all, Taken, entry_at, looked_at}
use Rattle.std.proofs.lemmas.Map.Lookups.{CmpEqualImpliesEq}
use Rattle.std.proofs.lemmas.Option.{get_or_from_slice_get, slice_get_within, slice_get_cases}

module _ {K V : Type 0} (cmp : K → K → Ordering) (exact : CmpEqualImpliesEq cmp) (none : V) (f : V → V) (old new : K → Option V) (key : K) (v : V)
    (updates : (q : K) → new q ≡ cond (is_eq (cmp key q)) (Some v) (old q)) (is : v ≡ f (unwrap_or (old key) none)) where
  -- what is found at each key, where what was found at one was changed
  pub put_found : (k : K) → new k ≡ cond (is_eq (cmp key k)) (Some (f (unwrap_or (old k) none))) (old k)
  put_found k = grind (arith, updates, exact, equal)

  -- the same with what stands where nothing is found
  pub put_at : (k : K) → unwrap_or (new k) none ≡ cond (is_eq (cmp key k)) (f (unwrap_or (old k) none)) (unwrap_or (old k) none)
  put_at k = grind (arith, put_found k)

pub take_next : {X : Type 0} (xs : List X) (k : ℕ) (x : X) → slice_get xs k ≡ Some x → take (suc k) xs ≡ take k xs ++ x ∷ []
take_next xs k x is = take-suc xs k x (slice_get_within xs k x is) ∙ ap (λ y. take k xs ++ (y ∷ [])) (get_or_from_slice_get xs k x x is)

pub take_past : {X : Type 0} (xs : List X) (k n : ℕ) → slice_get xs k ≡ None → k ≤ n → take k xs ≡ take n xs
take_past xs k n is le = grind (arith, take_all, slice_get_cases)

entry_there : (H : List Taken) (place : ℕ) → 1 ≤ place → entry_at H place ≡ slice_get (reverse H) (place - 1)
entry_there H place le = grind arith

pub entry_more : (H : List Taken) (place : ℕ) (t : Taken) → 1 ≤ place → entry_at H place ≡ Some t → take (place - 1) (reverse H) ++ t ∷ [] ≡ take (place + 1 - 1) (reverse H)
entry_more H place t le there =
    let later : suc (place - 1) ≡ place + 1 - 1 = omega arith in
    sym (take_next (reverse H) (place - 1) t (sym (entry_there H place le) ∙ there)) ∙ ap (λ n. take n (reverse H)) later

pub entries_end : (H : List Taken) (place : ℕ) → 1 ≤ place → place < 2 ^ 32 - 1 → entry_at H place ≡ None → take (place - 1) (reverse H) ≡ looked_at H
entries_end H place le lt none = take_past (reverse H) (place - 1) (2 ^ 32 - 2) (sym (entry_there H place le) ∙ none) (omega arith)
