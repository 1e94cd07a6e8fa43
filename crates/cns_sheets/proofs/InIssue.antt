-- The rows in one issue, found account by account.
-- For `rows_in` of sheet.rt, `first_in` and `next` of in_issue.rt.
use Rattle.cns_sheets.proofs.Common.{◌≡◌, ◌∙◌, sym, ap, refl, ℕ, ◌+◌, ◌-◌, ◌<◌, ◌≤◌, ◌&&◌, Bool, true, cond, List, [], ◌∷◌, filter, Option, Some, None, MatchOption, arith, is_lt, AllByRecursion, Columns, Cusip, IsMarked, Key, Row, bytes_eq-Decides, filter_both, first, full_row, full_rows, is_at_or_after, is_sorted, key_cmp, keys_total, member_limit, nat_list_cmp_total, nat_tests, option_map_or, same_issue, tied_itself, AreAccounts, entries_from, is_next_in, place_after, reaches, rows_from}
use Rattle.cns_sheets.proofs.Entries.{filter-map, first_above}
use Rattle.cns_sheets.proofs.Walked.{from_later}

-- tests that tell the elements of a list apart alike keep the same of it
filter_alike : {X : Type 0} (P : X → Type 0) (u v : X → Bool) → ((x : X) → P x → u x ≡ v x) → (xs : List X) → AllByRecursion P xs → filter u xs ≡ filter v xs
filter_alike P u v same [] all = refl
filter_alike P u v same (x ∷ xs) all = grind (arith, same x all.0, filter_alike P u v same xs all.1)

module _ (c : Cusip) where
  -- how many accounts are left from a place on
  abbrev pub accounts_left : Option Key → ℕ
  accounts_left from = option_map_or (λ k. (member_limit + 1) - k.account) from 0

  -- fewer, after a key that is not below it
  pub fewer_left : (k low : Key) → low.issue ≡ c → low.account ≤ member_limit → reaches (Some low) k ≡ true → accounts_left (place_after k c) < accounts_left (Some low)
  fewer_left k low here le past = grind arith

  -- without a place nothing is left
  pub none_left : (es : List (Key × Columns)) → entries_from es c None ≡ []
  none_left [] = refl
  none_left (e ∷ es) = grind (arith, none_left es)

  module _ (es : List (Key × Columns)) (accounts : AreAccounts es) where
    -- whether a key is in the issue
    abbrev is_in : Key × Columns → Bool
    is_in e = same_issue e.0.issue c

    -- in the issue, above a key is from the place after it on
    alike : (k : Key) (e : Key × Columns) → e.0.account ≤ member_limit → (is_in e && is_lt (key_cmp k e.0)) ≡ is_next_in c (place_after k c) e
    alike k e le = grind (arith, bytes_eq-Decides, tied_itself nat_list_cmp_total c)

    -- the first key from a place on, if it is in the issue, before those from the place after it on
    pub first_entry : is_sorted key_cmp es ≡ true → (low : Key) (o : Option (Key × Columns)) → o ≡ first (is_at_or_after low) es
        → MatchOption o (entries_from es c (Some low) ≡ []) (λ f. entries_from es c (Some low) ≡ cond (is_in f) (f ∷ entries_from es c (place_after f.0 c)) (entries_from es c (place_after f.0 c)))
    first_entry s low None is = sym (filter_both is_in (λ e. reaches (Some low) e.0) es) ∙ ap (filter is_in) (rw (← is) at (first_above key_cmp keys_total (reaches (Some low)) es (from_later low) s))
    first_entry s low (Some f) is =
        sym (filter_both is_in (λ e. reaches (Some low) e.0) es) ∙ ap (filter is_in) (rw (← is) at (first_above key_cmp keys_total (reaches (Some low)) es (from_later low) s))
        ∙ ap (λ ys. cond (is_in f) (f ∷ ys) ys) (filter_both is_in (λ e. is_lt (key_cmp f.0 e.0)) es ∙ filter_alike (λ e. e.0.account ≤ member_limit) _ (is_next_in c (place_after f.0 c)) (alike f.0) es accounts)

    -- from the first account on, all rows in the issue are left
    pub all_in : rows_from es c (Some (record { account = 0; issue = c })) ≡ filter (λ r. same_issue r.issue c) (full_rows es)
    all_in = ap full_rows (filter_alike (λ e. e.0.account ≤ member_limit) (is_next_in c (Some (record { account = 0; issue = c }))) is_in (λ e le. grind (arith, nat_tests, bytes_eq-Decides, tied_itself nat_list_cmp_total c)) es accounts) ∙ sym (filter-map (λ (r : Row). same_issue r.issue c) full_row es)

-- the accounts of marked rows are accounts
pub marked_accounts : (es : List (Key × Columns)) → AllByRecursion IsMarked (full_rows es) → AreAccounts es
marked_accounts [] m = tt
marked_accounts (e ∷ es) m = (m.0.account, marked_accounts es m.1)
