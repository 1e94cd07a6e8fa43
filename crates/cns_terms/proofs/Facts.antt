-- Facts that proofs of several crates use: tests, comparisons, numbers, lists. Passes on names that files below Common.antt cite.
pub use Rattle.std.proofs.Common.{drop, get_or, ◌≡◌, ◌∙◌, sym, ap, refl, suc, ℕ, ℤ, pos, ◌+ℤ◌, Bool, true, false, not, ◌&&◌, ◌||◌, cond, eqb, List, [], ◌∷◌, length, Option, Some, arith, filter, ◌≤◌, bytes_eq, int_le, int_lt, is_eq, is_lt, nat_cmp, Ordering, Less, Equal, ◌+◌, ◌==◌, map, sum_by, ◌*◌, ◌<◌, is_none, filter_map, unsigned_abs, IfSome, None, int_eq, mul-le-mul_left, flat_map, neg_ℤ, ◌*ℤ◌, ◌⊎◌, inr, nat_lt, find, ◌-ℤ◌, zero, ◌++◌, unwrap_or, option_map, reverse, max, subst, if◌then◌else◌, codes, int_div, slice_get, ◌^◌, T, append_assoc, length-append, le_trans, ◌/◌, min, div-mul-le_self, take}
pub use Rattle.cns_terms.specs.Common.{Activity, Cusip, Day, journal, option_map_or, in_order, slice_cmp, tied_itself, brought, filled, given_to, Account, AllByRecursion, Command, Declared, IsReached, Journal, State, account_lt, accounts, activities, after, booking_limit, closings, dividends, member_limit, members, money, next, opened, position_limit, Posting, posting, price, price_limit, rate_limit, Entry, Execution, IsInRange, Notice, Price, Ratio, against_corporation, execution_entries, holders, in_exchange, in_lieu, money_limit, new_entry, notice_at, old_entry, Pend, entries, trade_entries, ratio_limit, rules, split_entry, member_added, IsCommandInRange, IsRatio, due, value, day, bought_in, cents_for, corporation, date, is_beyond, is_exceeded, is_too_large, list_any, moved_in, moved_out, open_day, pend_of, pending, shares_for, short, sold_in, total, IsWithin, is_due, places, Fill, Liable, Member, Short, at_close, batch, batch_at, called, capacity, fill_entry, fills, fills_before, is_called, is_live, left_of, liable_of, long, originator_entry, remaining, room, same_issue, short_of, shorts, stage, last_close, mark, DaySheet, Row, closed_on, day_sheet, is_idle, is_same_day, issues, row, rows_of, sheet_rows, IsTotalOrder, commands_of, replies_of, state, replies, is_not_after, trades, age, carried, closes_short, exchanges_today, forerunners, forerunners_today, below_all, is_sorted, sheet_at, Rate, as_of, cash, dividend, member_dividend, Rule, day_number, first_refusal, is_listed, journal_of, notices, fraction, Key, key_cmp, ordering_then, fills_of, stretch, room_of, stretch_at, issue_lt, sheet_prices, position}
pub use Rattle.cns_terms.specs.Laws.{AddsUpToZero, Amounts, Bounds, ClosedDays, HasSmallSums, IsBounded, Positions, Reaches, RefusalOrder, StaysSmall, ZeroSums}
pub use Rattle.cns_terms.specs.Sums.{put}
pub use Rattle.std.proofs.lemmas.Bool.Decides.{nat_tests}
pub use Rattle.std.proofs.lemmas.Cmp.{nat_cmp_total, nat_list_cmp_total, nat_list_eq_equiv, on_total, then_total}
pub use Rattle.std.proofs.lemmas.Int.{ints, unsigned_abs-mul}
pub use Rattle.std.proofs.lemmas.Map.Text.{is_eq-slice_cmp}
use Rattle.cns_terms.specs.declared.command.Listing.{Listing}
pub use Rattle.std.proofs.lemmas.Slice.Eq.{bytes_eq-Decides}
pub use Rattle.std.proofs.lemmas.List.{drop_more}
pub use Rattle.std.proofs.lemmas.List.Sums.{sum_by-append, sum_by-cons}
pub use Rattle.std.proofs.Math.Nat.{mul-le-mul, min-le_right}
pub use lib.IntN.{zero-*ℤ, *ℤ_comm, suc_ℤ-*ℤ, *ℤ-zero}
pub use Rattle.std.proofs.lemmas.Grind.{reverse_onto}
pub use Rattle.cns_terms.specs.declared.action.Exchange.{Exchange}
pub use Rattle.std.specs.FinMap.{FinMap, entries-from_sorted, from_sorted, get-from_sorted, same_map, IsAntisymmetric}

-- ---- tests

-- of two that hold, the first does, and the second
pub and_left : (a b : Bool) → (a && b) ≡ true → a ≡ true
and_left a b h1 = grind arith

pub and_right : (a b : Bool) → (a && b) ≡ true → b ≡ true
and_right a b h1 = grind arith

pub both_true : (a b : Bool) → a ≡ true → b ≡ true → (a && b) ≡ true
both_true a b h1 h2 = grind arith

-- of two of which none holds, neither does
pub neither : (a b : Bool) → (a || b) ≡ false → (a ≡ false) × (b ≡ false)
neither a b h1 = grind arith

pub or_false : (b : Bool) → (b || false) ≡ b
or_false b = grind arith

pub and_false : (b : Bool) → (b && false) ≡ false
and_false b = grind arith

-- what does not fail holds
pub holds : (x : Bool) → not x ≡ false → x ≡ true
holds x h1 = grind arith

-- ---- comparisons

-- a comparison, by its tests
pub less : (r : Ordering) → is_lt r ≡ true → r ≡ Less
less r h1 = grind arith

pub equal : (r : Ordering) → is_eq r ≡ true → r ≡ Equal
equal r h1 = grind arith

-- numbers, tested for equality
pub eqb_refl : (a : ℕ) → eqb a a ≡ true
eqb_refl a = grind (arith, nat_tests)

pub eqb_sym : (a b : ℕ) → eqb a b ≡ eqb b a
eqb_sym a b = grind (arith, nat_tests)

pub nat_eq_test : (a b : ℕ) → is_eq (nat_cmp a b) ≡ eqb a b
nat_eq_test a b = grind (arith, nat_tests)

-- CUSIPs, tested for equality
pub bytes_refl : (c : List ℕ) → bytes_eq c c ≡ true
bytes_refl c = sym (is_eq-slice_cmp c c) ∙ ap is_eq (tied_itself nat_list_cmp_total c)

pub same_test : (c d : Cusip) → is_eq (slice_cmp nat_cmp c d) ≡ bytes_eq d c
same_test c d = is_eq-slice_cmp c d ∙ nat_list_eq_equiv.symm c d

-- two issues differ both ways
pub issues_differ : (c d : Cusip) → bytes_eq c d ≡ false → bytes_eq d c ≡ false
issues_differ c d e = cc (same_test c d, is_eq-slice_cmp c d)

-- ---- numbers

pub zero_add : (n : ℤ) → pos 0 +ℤ n ≡ n
zero_add n = omega (arith, ints)

pub less_less : (a b c : ℤ) → int_lt a b ≡ true → int_lt b c ≡ true → int_lt a c ≡ true
less_less a b c p q = grind (arith, ints)

-- a number that is not at or below another is above it
pub later : (a b : ℤ) → int_le a b ≡ false → int_lt b a ≡ true
later a b h = grind (arith, ints)

-- the price of the listing that is found first
pub price_branch : (t : Bool) (l : Listing) (o : Option Listing) → option_map_or (λ (l : Listing). l.price) (cond t (Some l) o) 0 ≡ cond t l.price (option_map_or (λ l. l.price) o 0)
price_branch t l o = grind arith

-- a posting for each activity
pub journal_len : (opening : Day) (L : List Activity) → length (journal opening L) ≡ length L
journal_len opening [] = refl
journal_len opening (x ∷ L) = ap suc (journal_len opening L)

-- ---- lists

-- what is kept is no more
pub filter_len : {X : Type 0} (p : X → Bool) (xs : List X) → length (filter p xs) ≤ length xs
filter_len p [] = omega arith
filter_len p (x ∷ xs) = grind (arith, filter_len p xs)

-- what is left from a place on begins with what stands there
pub left_first : {X : Type 0} (xs : List X) (i : ℕ) (x : X) → i < length xs → x ≡ get_or xs i x → drop i xs ≡ x ∷ drop (i + 1) xs
left_first xs i x lt is = grind (arith, drop_more)

-- what is made of a list one element at a time, in any order: one more put in its place, and the whole list put in order
module _ {X Y : Type 0} (F : List X → Y) (op : X → Y → Y) (more : (x : X) (xs : List X) → F (x ∷ xs) ≡ op x (F xs)) (swap : (x y : X) (z : Y) → op x (op y z) ≡ op y (op x z)) (before : X → X → Bool) where
  pub same_put : (x : X) (ys : List X) → F (put before x ys) ≡ op x (F ys)
  same_put x [] = more x []
  same_put x (y ∷ ys) = grind (arith, more, swap x y (F ys), same_put x ys)

  pub same_order : (xs : List X) → F (in_order before xs) ≡ F xs
  same_order [] = refl
  same_order (x ∷ xs) = cc (same_put x (in_order before xs), same_order xs, more x xs)
