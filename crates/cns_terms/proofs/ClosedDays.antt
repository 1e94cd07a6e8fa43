-- A closed day keeps its sheet.
use Rattle.cns_terms.proofs.Common.{◌≡◌, ℕ, ◌≤◌, Bool, true, List, [], ◌∷◌, sym, ◌∙◌, ap, subst, arith, find, Option, Some, option_map, AllByRecursion, Command, Day, DaySheet, IsWhole, Journal, State, after, at_close, closed_on, closes, day_sheet, journal_of, next, opened, rows_for, statement, ClosedDays, sheet_at, opening_stays, whole-after, whole-next}

-- what is found passes the test, and what holds of each holds of it
found : {X : Type 0} (P : X → Type 0) (t : X → Bool) (xs : List X) (x : X) → AllByRecursion P xs → find t xs ≡ Some x → P x × (t x ≡ true)
found P t [] x a e = cc
found P t (y ∷ ys) x a e = grind (arith, found P t ys x a.1)

-- ---- after commands

-- what commands leave of the earlier closes
pub record Keeps (opening : Day) (J J' : Journal) : Type 0 where
  pub more : closes J ≤ closes J'
  pub by_place : (i : ℕ) → i ≤ closes J → at_close J' i ≡ at_close J i
  pub by_date : (d : Day) (K : Journal) → closed_on opening J d ≡ Some K → closed_on opening J' d ≡ Some K

-- a command keeps what stood at the earlier closes
keeps-next : (S : State) (cmd : Command) → IsWhole S.opening (journal_of S) → Keeps S.opening (journal_of S) (journal_of (next S cmd))
keeps-next S cmd h1 = grind (arith, found)

-- and so do commands
pub keeps-after : (S : State) (cmds : List Command) → IsWhole S.opening (journal_of S) → Keeps S.opening (journal_of S) (journal_of (after S cmds))
keeps-after S [] w = grind arith
keeps-after S (cmd ∷ cmds) w =
    let one = keeps-next S cmd w in
    let more = keeps-after (next S cmd) cmds (whole-next S cmd w) in
    record {
      more = omega (arith, one.more, more.more);
      by_place = λ i h. more.by_place i (omega (arith, one.more, h)) ∙ one.by_place i h;
      by_date = λ d K is. more.by_date d K (one.by_date d K is);
    }

-- what is made of a journal that is found again
found_again : (f : Journal → DaySheet) (o o' : Option Journal) (s : DaySheet) → ((K : Journal) → o ≡ Some K → o' ≡ Some K) → option_map f o ≡ Some s → option_map f o' ≡ Some s
found_again f o o' s h1 h2 = grind arith

-- whatever is taken later, a closed day keeps its sheet and its statements
pub closed_days : ClosedDays
closed_days opening cmds more =
    let S = after (opened opening) cmds in
    let stays : S.opening ≡ opening = opening_stays (opened opening) cmds in
    let k : Keeps opening (journal_of S) (journal_of (after S more)) =
    subst (λ o. Keeps o (journal_of S) (journal_of (after S more))) stays (keeps-after S more (subst (λ o. IsWhole o (journal_of S)) (sym stays) (whole-after opening cmds))) in
    let same : (i : ℕ) → i ≤ closes (journal_of S) → sheet_at opening (journal_of (after S more)) i ≡ sheet_at opening (journal_of S) i = λ i h. ap (day_sheet opening) (k.by_place i h) in
    record {
      by_place = same;
      by_date = λ d s. found_again (day_sheet opening) (closed_on opening (journal_of S) d) (closed_on opening (journal_of (after S more)) d) s (k.by_date d);
      statements = λ i a h. record { stated = ap (λ s. statement s a) (same i h); rows = ap (λ (s : DaySheet). rows_for s.rows a) (same i h) };
    }
