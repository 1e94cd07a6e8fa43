-- The sheet that a close cuts is the one of the definitions.
-- For `close_day` of parts/closing.rt, clause step.
use Rattle.cns_book.proofs.Common.{◌≡◌, ◌∙◌, sym, ap, subst, refl, ℕ, ◌+◌, ◌≤◌, ◌<◌, ℤ, pos, true, false, cond, List, [], ◌∷◌, length, map, filter, Some, None, unwrap_or, arith, option_map, slice_get, unsigned_abs, is_eq, nat_cmp, Activity, AllByRecursion, Contents, Cusip, Day, DaySheet, Declared, Follows, Holding, IsCut, IsLimited, IsSound, Journal, Key, Listed, Paying, Row, Rows, accounts, amount_limit, and_left, and_right, closings, cons_option, date, day_sheet, dividend_of, dividends, each_both, each_filter, each_in_order, equal, exact_bytes, find_below, find_with, found_number, history_limit, holding_at, idle_parts, in_order, is_listed, is_sorted, issues, issues_few, journal, journal_len, key_cmp, keys_total, last_close, last_date, last_dated, limited, limited_past, nat_list_cmp_total, numbers, occurs, option_map_or, payments_by, pays_before, price, price_in, prices_of, rate_limit, row, rows_for, said, same_issue, same_lists, same_sums, sheet_as_of, sheet_rows, slice_cmp, sorted_numbers, tied_itself, total, total-map, total_numbers, tied_below, sorted_with, AreSmallRates, account_cents_small, account_dividends_small, accounts_grew, due_few, payable, sound_last, zeros, HaveSmallAmounts, by_key, row_key, IsPayable, cut_row, slice_get-map, listed_above, none_in, numbers_in}
use Rattle.std.specs.FinMap.{find}
use Rattle.cns_terms.specs.Dividends.{is_due}
use Rattle.cns_terms.specs.Sheets.{sheet_prices}
use Rattle.cns_terms.proofs.PriceLists.{price_or_zero, sheet_price}
use Rattle.cns_terms.proofs.SheetBounds.{closings_zero, moneys_zero, rows_few}
use Rattle.cns_sheets.specs.Condition.{held_in, CanBePaid, IsReady}
use Rattle.cns_sheets.proofs.Kept.{listed_found, prices_rise}
use Rattle.cns_book.proofs.PendingSteps.{chosen_few}
use Rattle.cns_book.proofs.PartsWithin.{cents_few}
use Rattle.cns_book.proofs.ClosingPayments.{dividends_are, rows_are_cut, closing_found, shown_rise, number_found}

-- the list of prices is that of the definitions
prices_are : (J : Journal) (es : Listed) → IsSound J → is_sorted (slice_cmp nat_cmp) es ≡ true → ((c : Cusip) → price_in es c ≡ cond (is_listed J c) (Some (price J c)) None) → listed_above es None ≡ sheet_prices J
prices_are J es s sorted is =
    same_lists nat_list_cmp_total exact_bytes (listed_above es None) (sheet_prices J) (prices_rise es sorted) (sorted_with (price J) (issues J) s.issues_rise)
    (λ c. listed_found c es ∙ is c ∙ sym (find_with (price J) c (issues J)))

-- the dividends that a close pays, with the rows of the sheets of their record dates
abbrev pub paid_now : Contents → List Paying
paid_now s = payments_by s.sheets (filter (is_due (last_dated s.sheets) s.today) s.dividends)

module _ (L : List Activity) (s : Contents) (f : Follows L s) where
  abbrev journal_now : Journal
  journal_now = journal s.opening L

  -- the dividends that a close pays are those that are due
  paid_is_due : paid_now s ≡ payments_by (map (day_sheet s.opening) (closings journal_now)) (filter (is_due (last_date s.opening journal_now) (date s.opening journal_now)) (in_order pays_before (dividends journal_now)))
  paid_is_due = let sheets = f.sheets in let today = f.clock.today in grind (arith, slice_get-map (day_sheet s.opening) (closings journal_now) 0)

  -- the row of each key is that of the definitions
  row_is : (k : Key) → cut_row (prices_of (slice_get s.sheets 0)) s.prices s.rows (paid_now s) k ≡ row s.opening journal_now k.account k.issue
  row_is k =
      let w = (limited s.opening L f.reached).whole in
      let earlier = each_both IsSound (λ K. (a : ℕ) → occurs a (accounts K) ≤ occurs a (accounts journal_now)) (closings journal_now) w.past (accounts_grew journal_now) in
      grind (arith, f.sheets, slice_get-map (day_sheet s.opening) (closings journal_now) 0, f.listings.prices k.issue, price_or_zero journal_now k.issue w.now, sheet_price (last_close journal_now) k.issue (sound_last journal_now w), ap (λ ps. dividend_of ps k) paid_is_due ∙ dividends_are s.opening journal_now w.now k earlier, f.rows k)

  -- rows that are cut are those of the definitions
  pub cut_is : (rows : List Row) → IsCut (prices_of (slice_get s.sheets 0)) s.prices s.rows (paid_now s) rows → rows ≡ sheet_rows s.opening journal_now
  cut_is rows cut = rows_are_cut s.opening journal_now rows (limited s.opening L f.reached).whole.now cut.order (λ k. cut.each k ∙ ap said (row_is k))

-- what holds at each key holds of each row
each_row : (Q : Holding → Type 0) (R : Rows) → Q zeros → is_sorted key_cmp R ≡ true → ((k : Key) → Q (holding_at R k)) → AllByRecursion (λ e. Q e.1) R
each_row Q [] z s h = tt
each_row Q (e ∷ R) z s h =
    let here : holding_at (e ∷ R) e.0 ≡ e.1 = ap (λ o. unwrap_or (cond (is_eq o) (Some e.1) (find key_cmp e.0 R)) zeros) (tied_itself keys_total e.0) in (
      subst Q here (h e.0),
      each_row Q R z (and_right _ _ s) (λ k. elim (is_eq (key_cmp k e.0)) as (λ b. is_eq (key_cmp k e.0) ≡ b → Q (holding_at R k)) [
        | true ↦ λ t. subst (λ o. Q (unwrap_or o zeros)) (sym (find_below keys_total k R (tied_below keys_total k e.0 R (equal _ t) (and_left _ _ s)))) z
        | false ↦ λ t. subst (λ b. Q (unwrap_or (cond b (Some e.1) (find key_cmp k R)) zeros)) t (h k)
      ] refl),
    )

-- a number of the holding at each key adds up in each issue as that of the rows
same_by_issue : (f : Holding → ℤ) (g : Row → ℤ) (R : Rows) (rows : List Row) (c : Cusip) → is_sorted key_cmp R ≡ true → is_sorted key_cmp (by_key rows) ≡ true
    → ((k : Key) → option_map_or f (find key_cmp k R) (pos 0) ≡ option_map_or g (find key_cmp k (by_key rows)) (pos 0)) → total (held_in f c) R ≡ total (λ r. cond (same_issue r.issue c) (g r) (pos 0)) rows
same_by_issue f g R rows c order rise alike =
    sym (total_numbers f (numbers_in c) R)
    ∙ same_sums (numbers_in c) (none_in c) (numbers f R) (numbers g (by_key rows)) (sorted_numbers f R order) (sorted_numbers g (by_key rows) rise)
    (λ k. found_number f k (pos 0) R ∙ alike k ∙ sym (found_number g k (pos 0) (by_key rows)))
    ∙ total_numbers g (numbers_in c) (by_key rows)
    ∙ total-map (λ (e : Key × Row). cond (same_issue e.0.issue c) (g e.1) (pos 0)) (λ r. (row_key r, r)) rows

-- a sheet can be cut of the positions
pub can_be_cut : (L : List Activity) (s : Contents) → Follows L s → length L + 1 < history_limit → IsReady (slice_get s.sheets 0) s.prices s.rows (paid_now s)
can_be_cut L s f room order =
    let J = journal s.opening L in let w = (limited s.opening L f.reached).whole in let l = limited s.opening L f.reached in
    let short : length J < history_limit = omega (arith, room, journal_len s.opening L) in let shown = sheet_rows s.opening J in
    record {
      shares = λ c.
          same_by_issue (λ h. h.now) (λ r. r.closing) s.rows shown c order (shown_rise s.opening J w.now)
          (λ k. grind (arith, f.rows k, closing_found s.opening J k w.now))
          ∙ closings_zero s.opening J c l;
      cents = λ c.
          same_by_issue (λ h. h.contract) (λ r. r.money) s.rows shown c order (shown_rise s.opening J w.now)
          (λ k. grind (arith, f.rows k, number_found s.opening J (λ r. r.money) (λ r h. (idle_parts r h).2) k w.now))
          ∙ moneys_zero s.opening J c l;
      openings = λ k. grind (arith, f.rows k, f.sheets, slice_get-map (day_sheet s.opening) (closings J) 0, closing_found s.opening (last_close J) k (sound_last J w));
      small = each_row (λ h. unsigned_abs h.contract ≤ amount_limit) s.rows (omega arith) order (λ k. omega (arith, cents_few L s k f room));
      few = λ cut is a. subst (λ rs. length (rows_for rs a) ≤ history_limit) (sym (cut_is L s f cut is)) (omega (arith, rows_few s.opening J a w.now, issues_few J, journal_len s.opening L, room));
      amounts = λ cut is. subst HaveSmallAmounts (sym (cut_is L s f cut is)) (record {
        cents = λ a n. account_cents_small s.opening J a n l short;
        dividends = λ a n. account_dividends_small s.opening J a n l (limited_past s.opening L f.reached) short;
      });
    }

-- ---- what a close pays can be paid

payable_one : (opening : Day) (d : Declared) (Ks : List Journal) (ps : List Paying) → AllByRecursion (IsLimited opening) Ks → d.rate ≤ rate_limit → AllByRecursion IsPayable ps → AllByRecursion IsPayable (cons_option (option_map (λ s. (d, s.rows)) (sheet_as_of (map (day_sheet opening) Ks) d.recorded)) ps)
payable_one opening d [] ps l low h = h
payable_one opening d (K ∷ Ks) ps l low h = grind (arith, payable opening K l.0 d.issue d.rate low, payable_one opening d Ks ps l.1 low h)

all_payable : (opening : Day) (Ks : List Journal) (ds : List Declared) → AllByRecursion (IsLimited opening) Ks → AreSmallRates ds → AllByRecursion IsPayable (payments_by (map (day_sheet opening) Ks) ds)
all_payable opening Ks [] l r = tt
all_payable opening Ks (d ∷ ds) l r = payable_one opening d Ks (payments_by (map (day_sheet opening) Ks) ds) l r.0 (all_payable opening Ks ds l r.1)

-- the dividends of a close can be paid
pub can_be_paid : (L : List Activity) (s : Contents) → Follows L s → length L + 1 < history_limit → CanBePaid (paid_now s)
can_be_paid L s f room = grind (arith, each_filter, each_in_order, limited, paid_is_due, payable, all_payable, limited_past, chosen_few, due_few, journal_len)

-- the sheet
pub sheet_is : (L : List Activity) (s : Contents) (sheet : DaySheet) → Follows L s → is_sorted (slice_cmp nat_cmp) s.prices ≡ true → sheet.date ≡ s.today → sheet.prices ≡ listed_above s.prices None → IsCut (prices_of (slice_get s.sheets 0)) s.prices s.rows (paid_now s) sheet.rows → sheet ≡ day_sheet s.opening (journal s.opening L)
sheet_is L s sheet f order dated listed cut = grind (arith, prices_are, limited, cut_is)
