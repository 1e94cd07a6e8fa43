-- What a close pays by the sheets of the record dates is what the definitions say.
-- For `close_day` of parts/closing.rt, clause step.
use Rattle.cns_book.proofs.Common.{◌≡◌, ◌∙◌, sym, ap, refl, ℕ, ◌≤◌, ℤ, pos, neg_ℤ, Bool, true, false, not, ◌&&◌, ◌||◌, ◌==◌, cond, List, [], ◌∷◌, map, filter, find, Option, Some, None, unwrap_or, arith, bytes_eq, filter_map, option_map, Account, AllByRecursion, Cusip, Day, DaySheet, Declared, IsSound, Journal, Key, Paying, Row, accounts, and_right, as_of, bytes_eq-Decides, cash, closings, corporation, date, day_sheet, dividend, dividend_of, dividends, exact_keys, find_filter, found_number, in_order, is_not_after, is_sorted, issues, kept_if, key_cmp, keys_total, last_date, list_any, members, numbers, occurs, occurs_found, occurs_missing, option_map_or, payments_by, pays_before, row, said, same_lists, same_sums, says, sheet_as_of, sheet_rows, sorted_numbers, total, total-map, total-neg, total-same, total-swap, total-zero, total_numbers, position, idle_at, no_account_elsewhere, no_position, total-due, by_key, row_key, member_cash, paid, ◌++◌, flat_map, closing_at, filter-append, idle_parts, map-append, rows_of, sorted_filter, map-map, map-id}
use Rattle.cns_terms.proofs.Cells.{cells, cells_of, find_cells, sorted_cells}
use Rattle.cns_terms.specs.Dividends.{due, is_due}
use Rattle.std.specs.FinMap as finmap
use Rattle.cns_terms.proofs.Paid.{no_cash}
use Rattle.cns_sheets.specs.Search.{row_at}

-- one row more, or not, with its key
with_key : (b : Bool) (r : Row) (rs : List Row) (es : List (Key × Row)) → by_key rs ≡ es → by_key (cond b (r ∷ rs) rs) ≡ cond b ((row_key r, r) ∷ es) es
with_key b r rs es h1 = grind arith

module _ (opening : Day) (K : Journal) where
  -- the row at each key
  abbrev row_of : Key → Row
  row_of k = row opening K k.account k.issue

  of_account : (a : Account) (cs : List Cusip) → by_key (filter says (map (row opening K a) cs)) ≡ filter (λ e. says e.1) (cells_of row_of a cs)
  of_account a [] = refl
  of_account a (c ∷ cs) = with_key (says (row opening K a c)) (row opening K a c) (filter says (map (row opening K a) cs)) (filter (λ e. says e.1) (cells_of row_of a cs)) (of_account a cs)

  -- the rows of all accounts, with their keys
  pub of_all : (bs : List Account) → by_key (flat_map (rows_of opening K) bs) ≡ filter (λ e. says e.1) (cells row_of bs (issues K))
  of_all [] = refl
  of_all (a ∷ bs) =
      map-append (λ r. (row_key r, r)) (rows_of opening K a) (flat_map (rows_of opening K) bs)
      ∙ (λ i. of_account a (issues K) i ++ of_all bs i)
      ∙ sym (filter-append (λ (e : Key × Row). says e.1) (cells_of row_of a (issues K)) (cells row_of bs (issues K)))

  module _ (g : Row → ℤ) (idle : (r : Row) → says r ≡ false → g r ≡ pos 0) where
    -- a number of the row at a key, 0 where it has none, is that of the definitions
    pub number_found : (k : Key) → IsSound K → option_map_or g (finmap.find key_cmp k (by_key (sheet_rows opening K))) (pos 0) ≡ g (row_of k)
    number_found k s = grind (arith, of_all (accounts K), find_filter keys_total says k (cells row_of (accounts K) (issues K)) (sorted_cells row_of (accounts K) (issues K) s.accounts_rise s.issues_rise), find_cells row_of k (accounts K) (issues K), idle_at opening K k s, idle (row_of k))

  -- the rows are in the order of their keys
  pub shown_rise : IsSound K → is_sorted key_cmp (by_key (sheet_rows opening K)) ≡ true
  shown_rise s = rw (of_all (accounts K)) (sorted_filter keys_total says (cells row_of (accounts K) (issues K)) (sorted_cells row_of (accounts K) (issues K) s.accounts_rise s.issues_rise))

  -- the closing at a key, 0 where it has no row, is the position at the close
  pub closing_found : (k : Key) → IsSound K → closing_at (sheet_rows opening K) k ≡ position K k.account k.issue
  closing_found k s = number_found (λ r. r.closing) (λ r h. (idle_parts r h).1) k s

-- ---- the members of a sheet

module _ (opening : Day) (K J : Journal) (k_sound : IsSound K) (j_sound : IsSound J) (among : (a : ℕ) → occurs a (accounts K) ≤ occurs a (accounts J)) (d : Declared) where
  -- the cash at a place
  abbrev at_place : Key → ℤ
  at_place k = cash (position K k.account k.issue) d.rate

  -- what is paid at a key, by the members that are there now
  same_number : (k : Key) (s n m : Bool) → bytes_eq k.issue d.issue ≡ s → (k.account == corporation) ≡ n → list_any (λ a. k.account == a) (members J) ≡ m → cond (s && not n) (at_place k) (pos 0) ≡ unwrap_or (cond (m && (s || false)) (Some (at_place k)) None) (pos 0)
  same_number k s n m h1 h2 h3 = grind (arith, occurs_found, occurs_missing, no_position, no_account_elsewhere, no_cash)

  -- the rows of the sheet with their keys, as the definitions make them
  abbrev shown : List (Key × Row)
  shown = by_key (sheet_rows opening K)

  members_sum : (ms : List Account) → total (λ e. e.1) (cells at_place ms (d.issue ∷ [])) ≡ total (λ a. cash (position K a d.issue) d.rate) ms
  members_sum [] = refl
  members_sum (a ∷ ms) = grind (arith, members_sum ms)

  -- the rows of the sheet are paid what the members are that are there now
  pub members_paid : total (member_cash d) (sheet_rows opening K) ≡ total (λ a. cash (position K a d.issue) d.rate) (members J)
  members_paid =
      sym (total_numbers (member_cash d) (λ e. e.1) shown ∙ total-map (λ (e : Key × Row). member_cash d e.1) (λ r. (row_key r, r)) (sheet_rows opening K))
      ∙ same_sums (λ e. e.1) (λ k. refl) (numbers (member_cash d) shown) (cells at_place (members J) (d.issue ∷ [])) (sorted_numbers (member_cash d) shown (shown_rise opening K k_sound)) (sorted_cells at_place (members J) (d.issue ∷ []) (and_right _ _ j_sound.accounts_rise) refl)
      (λ k. found_number (member_cash d) k (pos 0) shown ∙ number_found opening K (member_cash d) (λ r h. grind arith) k k_sound ∙ same_number k _ _ _ refl refl refl ∙ sym (ap (λ o. unwrap_or o (pos 0)) (find_cells at_place k (members J) (d.issue ∷ []))))
      ∙ members_sum (members J)

  pub paid_is : (k : Key) → paid d (sheet_rows opening K) k ≡ cond (bytes_eq k.issue d.issue) (cond (k.account == corporation) (neg_ℤ (total (λ a. cash (position K a d.issue) d.rate) (members J))) (at_place k)) (pos 0)
  paid_is k = λ i. cond (bytes_eq k.issue d.issue) (cond (k.account == corporation) (neg_ℤ (members_paid i)) (cash (closing_found opening K k k_sound i) d.rate)) (pos 0)

-- ---- the dividends of a close

total-given : {X Y : Type 0} (f : Y → ℤ) (g : X → Option Y) (xs : List X) → total f (filter_map g xs) ≡ total (λ x. option_map_or f (g x) (pos 0)) xs
total-given f g [] = refl
total-given f g (x ∷ xs) = grind (arith, total-given f g xs)

module _ (opening : Day) (J : Journal) (sound : IsSound J) where
  -- what a dividend books at a key, by the positions that a journal has
  abbrev books_at : Declared → Key → Journal → ℤ
  books_at d k K = cond (bytes_eq k.issue d.issue) (cond (k.account == corporation) (neg_ℤ (total (λ a. cash (position K a d.issue) d.rate) (members J))) (cash (position K k.account k.issue) d.rate)) (pos 0)

  one_paid : (d : Declared) (k : Key) (Ks : List Journal) → AllByRecursion (λ K. IsSound K × ((a : ℕ) → occurs a (accounts K) ≤ occurs a (accounts J))) Ks
      → option_map_or (λ s. paid d s.rows k) (sheet_as_of (map (day_sheet opening) Ks) d.recorded) (pos 0) ≡ books_at d k (unwrap_or (find (λ K. is_not_after (date opening K) d.recorded) Ks) [])
  one_paid d k [] e = grind (arith, no_cash d.rate, total-same (λ a. cash (pos 0) d.rate) (λ a. pos 0) (members J) (λ a. no_cash d.rate) ∙ total-zero (members J))
  one_paid d k (K ∷ Ks) e = grind (arith, paid_is opening K J e.0.0 sound e.0.1 d k, one_paid d k Ks e.1)

  -- what a dividend books where it is of the issue
  abbrev in_issue : Account → Cusip → Declared → ℤ
  in_issue a c d = cond (a == corporation) (neg_ℤ (total (λ b. cash (position (as_of opening J d.recorded) b c) d.rate) (members J))) (cash (position (as_of opening J d.recorded) a c) d.rate)

  -- the dividends that are due in an issue book what the definitions say
  all_due : (a : Account) (c : Cusip) → total (in_issue a c) (due opening J c) ≡ dividend opening J a c
  all_due a c =
      let paid : Declared → Account → ℤ = λ d b. cash (position (as_of opening J d.recorded) b c) d.rate in
      grind (arith, total-neg (λ d. total (paid d) (members J)) (due opening J c) ∙ ap neg_ℤ (total-swap paid (due opening J c) (members J)))

  -- what a close pays at a key
  pub dividends_are : (k : Key) → AllByRecursion (λ K. IsSound K × ((a : ℕ) → occurs a (accounts K) ≤ occurs a (accounts J))) (closings J) → dividend_of (payments_by (map (day_sheet opening) (closings J)) (filter (is_due (last_date opening J) (date opening J)) (in_order pays_before (dividends J)))) k ≡ dividend opening J k.account k.issue
  dividends_are k e =
      let ds : List Declared = filter (is_due (last_date opening J) (date opening J)) (in_order pays_before (dividends J)) in
      let ss : List DaySheet = map (day_sheet opening) (closings J) in
      total-given (λ (p : Paying). paid p.0 p.1 k) (λ d. option_map (λ s. (d, s.rows)) (sheet_as_of ss d.recorded)) ds
      ∙ total-same _ _ ds (λ d. grind (arith, one_paid d k (closings J) e, (bytes_eq-Decides k.issue d.issue).0))
      ∙ total-due (in_issue k.account k.issue) (is_due (last_date opening J) (date opening J)) k.issue (dividends J)
      ∙ all_due k.account k.issue

-- rows in the order of keys that show the row of each key are those of the definitions
pub rows_are_cut : (opening : Day) (J : Journal) (rows : List Row) → IsSound J → is_sorted key_cmp (by_key rows) ≡ true → ((k : Key) → row_at rows k ≡ said (row opening J k.account k.issue)) → rows ≡ sheet_rows opening J
rows_are_cut opening J rows s order is =
    let g : Key → Row = λ k. row opening J k.account k.issue in
    let all = sorted_cells g (accounts J) (issues J) s.accounts_rise s.issues_rise in let kept = of_all opening J (accounts J) in
    sym (map-map (λ e. e.1) (λ r. (row_key r, r)) rows ∙ map-id rows)
    ∙ ap (map (λ e. e.1)) (same_lists keys_total exact_keys (by_key rows) (by_key (sheet_rows opening J)) order
    (shown_rise opening J s)
    (λ k. is k
    ∙ grind (arith, idle_at opening J k s)
    ∙ sym (ap (finmap.find key_cmp k) kept ∙ find_filter keys_total says k (cells g (accounts J) (issues J)) all ∙ ap (kept_if says) (find_cells g k (accounts J) (issues J)))))
    ∙ map-map (λ e. e.1) (λ r. (row_key r, r)) (sheet_rows opening J) ∙ map-id (sheet_rows opening J)
