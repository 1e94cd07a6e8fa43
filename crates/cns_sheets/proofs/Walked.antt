-- The rows of an account, found from its first row on.
-- For `of_rows`, `row`, `rows_of` and `rows_in` of sheet.rt and others.
use Rattle.cns_sheets.proofs.Common.{◌≡◌, ◌∙◌, each_weaker, ap, refl, subst, ◌≤◌, ◌==◌, map, option_map, Bool, true, false, not, List, [], ◌∷◌, filter, Option, Some, None, arith, is_lt, Less, Account, AllByRecursion, AreFrom, Columns, IsMarked, Key, Row, ahead_of, below_all, by_key, find, first, full_row, full_rows, if_of, is_after, is_at_or_after, is_sorted, key_cmp, row_key, keys_total, lowest_of, nat_tests, passed, row_at, rows_for, sorted_filter}
use Rattle.std.proofs.lemmas.List.Elements.{filter_passes, recursion_from_All}
use Rattle.cns_terms.proofs.Everywhere.{each_map}
use Rattle.cns_sheets.proofs.Entries.{filter-map, find_keyed, first_above, sorted_if, sorted_keyed}

-- ---- rows with their keys

-- the rows of columns by their keys are those of their keys
rows_keyed : (es : List (Key × Columns)) → by_key (full_rows es) ≡ map (λ e. (e.0, full_row e)) es
rows_keyed [] = refl
rows_keyed (e ∷ es) = rw (rows_keyed es) refl

-- the keys of rows rise where those of their columns do
pub sorted_filled : (es : List (Key × Columns)) → is_sorted key_cmp (by_key (full_rows es)) ≡ is_sorted key_cmp es
sorted_filled es = grind (arith, rows_keyed es, sorted_keyed key_cmp full_row es)

-- what is found among the columns, as a row
pub row_found : (k : Key) (es : List (Key × Columns)) → row_at (full_rows es) k ≡ option_map (λ v. full_row (k, v)) (find key_cmp k es)
row_found k es = grind (arith, rows_keyed es, find_keyed full_row k es)

-- rows that a test keeps are in order, where all are
pub sorted_kept : (p : Row → Bool) (rows : List Row) → is_sorted key_cmp (by_key rows) ≡ true → is_sorted key_cmp (by_key (filter p rows)) ≡ true
sorted_kept p rows s = rw (← filter-map (λ (e : Key × Row). p e.1) (λ r. (row_key r, r)) rows) (sorted_filter keys_total p (by_key rows) s)

-- ---- rows from an account on

-- what stands above a key of a higher account is not the account's
none_above : (a : Account) (k : Key) (rs : List Row) → a ≤ k.account → (k.account == a) ≡ false → below_all key_cmp k (by_key rs) ≡ true → rows_for rs a ≡ []
none_above a k [] le other b = refl
none_above a k (r ∷ rs) le other b = grind (arith, none_above a k rs le other)

-- where the first of rows from an account on is not the account's, none is
pub none_is : (a : Account) (r : Row) (rs : List Row) → AreFrom a (r ∷ rs) → (r.account == a) ≡ false → rows_for (r ∷ rs) a ≡ []
none_is a r rs h e = grind (arith, h.past.0, h.rise, none_above a (row_key r) rs)

-- ---- the first row of an account

-- what comes after a key that is not below another is not either
pub from_later : (low k q : Key) → not (is_lt (key_cmp k low)) ≡ true → key_cmp k q ≡ Less → not (is_lt (key_cmp q low)) ≡ true
from_later low k q p l = grind (arith, keys_total.trans)

module _ (a : Account) where
  -- whether a key is not below the lowest of the account
  abbrev is_from : Key → Bool
  is_from k = not (is_lt (key_cmp k (lowest_of a)))

  -- the account's rows are among those that are not below its lowest key
  all_from : (es : List (Key × Columns)) → AllByRecursion IsMarked (full_rows es) → rows_for (full_rows es) a ≡ rows_for (full_rows (filter (λ e. is_from e.0) es)) a
  all_from [] m = refl
  all_from (e ∷ es) m = grind (arith, all_from es m.1)

  module _ (es : List (Key × Columns)) (s : is_sorted key_cmp (by_key (full_rows es)) ≡ true) (m : AllByRecursion IsMarked (full_rows es)) where
    -- what a test of keys keeps, where it keeps no lower account
    from_kept : (t : Key → Bool) → ((k : Key) → t k ≡ true → a ≤ k.account) → AreFrom a (full_rows (filter (λ e. t e.0) es))
    from_kept t h = record { rise = rw (sorted_filled (filter (λ e. t e.0) es)) (sorted_if key_cmp t es (rw sorted_filled at s)); past = each_map (λ r. a ≤ r.account) full_row _ (each_weaker (λ e. t e.0 ≡ true) (λ e. a ≤ e.0.account) _ (λ e. h e.0) (recursion_from_All _ _ (filter_passes (λ e. t e.0) es))) }

    -- what the walk past a row has left
    abbrev Walked : Option Row → List (Key × Columns) → Type 0
    Walked o walk = AreFrom a (full_rows walk) × (rows_for (full_rows es) a ≡ ahead_of o (full_rows walk) a)

    -- above a key of the account are rows from it on
    above_from : (k : Key) → k.account ≡ a → AreFrom a (full_rows (filter (is_after (Some k)) es))
    above_from k same = from_kept (λ q. is_lt (key_cmp k q)) (λ q e. grind (arith, nat_tests))

    -- what a search finds of the account: its first row, followed by those above it
    pub account_walk : {o : Option Row} {walk : List (Key × Columns)} (r : Option (Key × Columns)) → r ≡ first (is_at_or_after (lowest_of a)) es → o ≡ if_of a r → walk ≡ filter (is_after (Some (passed a o))) es → Walked o walk
    account_walk None is row_is walk_is = rw (walk_is, row_is) (above_from (lowest_of a) refl, all_from es m ∙ ap (λ xs. rows_for (full_rows xs) a) (rw (← is) at (first_above key_cmp keys_total is_from es (from_later (lowest_of a)) (rw sorted_filled at s))))
    account_walk (Some f) is row_is walk_is =
        let next = rw (← is) at (first_above key_cmp keys_total is_from es (from_later (lowest_of a)) (rw sorted_filled at s)) in
        let rows : rows_for (full_rows es) a ≡ rows_for (full_row f ∷ full_rows (filter (λ e. is_lt (key_cmp f.0 e.0)) es)) a = all_from es m ∙ ap (λ xs. rows_for (full_rows xs) a) next in
        let from : AreFrom a (full_row f ∷ full_rows (filter (λ e. is_lt (key_cmp f.0 e.0)) es)) = subst (λ xs. AreFrom a (full_rows xs)) next (from_kept is_from (λ k e. grind (arith, nat_tests))) in
        rw (walk_is, row_is) (grind (arith, nat_tests, rows, above_from f.0, above_from (lowest_of a) refl, none_is a (full_row f) (full_rows (filter (λ e. is_lt (key_cmp f.0 e.0)) es)) from))
