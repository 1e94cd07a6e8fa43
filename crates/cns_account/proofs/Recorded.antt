-- What a day's records booked at a place.
-- For `moves_add_up` of laws.rt.
use Rattle.cns_account.proofs.Common.{◌≡◌, ◌∙◌, sym, refl, subst, ℕ, ◌+◌, ◌*◌, ◌<◌, ◌≤◌, ℤ, pos, ◌+ℤ◌, ◌-ℤ◌, Bool, true, false, cond, List, [], ◌∷◌, ◌++◌, append-nil, append_assoc, blank_log, filter, length, map, reverse, option_and_then, option_map, option_to_list, Option, Some, None, Ok, Err, arith, int_lt, sum_by, sum_by-cons, unsigned_abs, Width, w64, w128, AllByRecursion, fold, fold-append, option_map_or, ints, nat_tests, Day, IsReached, IsWhole, NoneHolds, State, added-more, all_fail, answer, date, day_number, execution_cents, fill_entry, is_close, journal_of, limited, magnitude, money_limit, next, open_day, pend_of, same_key, shares_limit, shares_of_fills, total, total_small, trade_entries, trades, traded, Activity, Command, Notice, Pend, Trade, Entry, Holding, Key, Reply, Log, state_of, Line, log_after_line, bookings_at, is_movement, is_open, lines_of, standing, Booking, HistoryLine, IsLineInRange, accepted_of, date_told, day_closed, is_line_at, is_within, last_of, unmoved, with_line, with_taken, Moves, ap, is_nothing, state_after_line, opened, Watched, Whose, entries, not, Journal, last_close, pending, reverse_onto, total-append, inl, inr, cases_Bool, log_after, history, closes}
use Rattle.cns_terms.proofs.Facts.{bytes_refl, later}
use Rattle.cns_terms.proofs.Reached.{reached-from}
use Rattle.cns_terms.specs.Refusals.{rules}
use Rattle.cns_terms.specs.declared.buy_in.Fill.{Fill}
use Rattle.cns_terms.specs.declared.refusal.Refusal.{Refusal}
use Rattle.cns_account.proofs.AtPlaces.{movement_at}
use Rattle.cns_account.proofs.Named.{at_next, adds, more}
use Rattle.cns_account.proofs.Summed.{Comes, IsPicked, cause_more, entry_at, is_named, of_entry, same, taken_last}
use Rattle.cns_terms.proofs.SheetSums.{total-flat_map}
use Rattle.cns_terms.specs.Pending.{due, is_due}

pub total-reverse : {X : Type 0} (f : X → ℤ) (xs : List X) → total f (reverse xs) ≡ total f xs
total-reverse f [] = refl
total-reverse f (x ∷ xs) = rw (reverse_onto xs x []) (omega (arith, ints, total-append f (reverse xs) (x ∷ []), total-reverse f xs))

-- a day is later than the day before, if there was one
abbrev pub IsAfter : Option Day → Day → Type 0
IsAfter before day = option_map_or (λ b. int_lt (day_number b) (day_number day)) before true ≡ true

module _ (f : Entry → ℤ) where
  abbrev pub all_booked : Journal → ℤ
  all_booked J = total (λ p. total f p.entries) J

  -- what the open day booked, and what was booked before the close that opened it
  pub open_parts : (J : Journal) → all_booked J ≡ all_booked (open_day J) +ℤ all_booked (last_close J)
  open_parts [] = refl
  open_parts (p ∷ J) = elim (cases_Bool (is_close p.activity)) [
    | inl ends ↦ rw ends (omega (arith, ints))
    | inr stays ↦ rw stays (omega (arith, ints, open_parts J))
  ]

  -- what a trade books, if its date is after the day before and up to the day
  abbrev pub settles : Option Day → Day → Pend → ℤ
  settles before day p = cond (is_within before day p.date) (total f (trade_entries p)) (pos 0)

  due_within : (today next : Day) (ps : List Pend) → total (λ p. total f (trade_entries p)) (filter (is_due next) (filter (λ p. not (is_due today p)) ps)) ≡ total (settles (Some today) next) ps
  due_within today next [] = refl
  due_within today next (p ∷ ps) = grind (arith, due_within today next ps)

  -- what a close books: the trades that are dated after the day that it ends, up to the next
  pub close_settles : (opening : Day) (J : Journal) (next : Day) → total f (entries opening J (Activity.Close next)) ≡ total (settles (Some (date opening J)) next) (trades J)
  close_settles opening J next = total-flat_map f trade_entries (due opening J next) ∙ total-reverse (λ p. total f (trade_entries p)) (filter (is_due next) (pending opening J)) ∙ due_within (date opening J) next (trades J)

  -- what a trade of the day books at once
  pub trade_settles : (opening : Day) (J : Journal) (before : Option Day) (t : Trade) → NoneHolds (rules opening J (Activity.Trade t)) → IsAfter before (date opening J)
      → total f (entries opening J (Activity.Trade t)) ≡ settles before (date opening J) (pend_of t)
  trade_settles opening J before t none after =
      grind (arith, ints, (all_fail (rules opening J (Activity.Trade t)) none).1.1.1.1.0)

-- ---- shares or cents

-- of an execution the shares, twice: the originator's and those of the fills
fill_shares : (n : Notice) (fs : List Fill) → magnitude (λ (e : Entry). e.shares) (map (fill_entry n) fs) ≡ sum_by (λ f. f.shares) fs
fill_shares n [] = refl
fill_shares n (f ∷ fs) = rw (fill_shares n fs, sum_by-cons (λ (f : Fill). f.shares) f fs) (omega (arith, ints))

-- those of what stands at a place
abbrev pub of_held : (ℤ → ℤ → ℤ) → Holding → ℤ
of_held pick h = pick h.now h.contract

-- what is picked is booked at a place, and no activity and no trade that a command names books more than some number
pub record IsCounted (k : Key) (w : Width) (pick : ℤ → ℤ → ℤ) (c : ℕ) : Type 0 where
  pub picked : IsPicked w pick
  pub less : (a b s t : ℤ) → pick (a -ℤ b) (s -ℤ t) ≡ pick a s -ℤ pick b t
  pub held : (S : State) (x : Activity) → IsWhole S.opening (journal_of S) → NoneHolds (rules S.opening (journal_of S) x) → is_close x ≡ false → of_held pick (standing (more S x) k) ≡ total (entry_at pick k) (entries S.opening (journal_of S) x) +ℤ of_held pick (standing S k)
  pub named : (S : State) (x : Activity) → IsLineInRange (Ok (Command.Activity x)) → NoneHolds (rules S.opening (journal_of S) x) → is_named x ≡ true → magnitude (of_entry pick) (entries S.opening (journal_of S) x) ≤ c
  pub traded : (t : Trade) → IsLineInRange (Ok (Command.Activity (Activity.Trade t))) → magnitude (of_entry pick) (trade_entries (pend_of t)) ≤ c

shares_named : (S : State) (x : Activity) → IsLineInRange (Ok (Command.Activity x)) → NoneHolds (rules S.opening (journal_of S) x) → is_named x ≡ true → magnitude (λ e. e.shares) (entries S.opening (journal_of S) x) ≤ 2 * shares_limit
shares_named S x range none is = grind (arith, shares_of_fills, fill_shares)

cents_named : (S : State) (x : Activity) → IsLineInRange (Ok (Command.Activity x)) → NoneHolds (rules S.opening (journal_of S) x) → is_named x ≡ true → magnitude (λ e. e.cents) (entries S.opening (journal_of S) x) ≤ 2 * money_limit
cents_named S (Activity.Execute x) range none is = grind (arith, execution_cents (journal_of S) x, range.0.0, range.0.2)
cents_named S x range none is = grind (arith, ints)

pub shares_counted : (k : Key) → IsCounted k w64 (λ s c. s) (2 * shares_limit)
shares_counted k = record { picked = grind arith; less = λ a b s t. refl; held = λ S x whole none ends. (adds S x k whole none ends).0; named = shares_named; traded = λ t range. omega (arith, ints, range.1) }

pub cents_counted : (k : Key) → IsCounted k w128 (λ s c. c) (2 * money_limit)
cents_counted k = record { picked = grind arith; less = λ a b s t. refl; held = λ S x whole none ends. (adds S x k whole none ends).1; named = cents_named; traded = λ t range. omega (arith, ints, range.0) }

-- ---- one activity more

-- all trades but one that is new stay
trades_more : (v : Pend → ℤ) (S : State) (x : Activity) → total v (trades (journal_of (more S x))) ≡ option_map_or (λ t. v (pend_of t)) (traded x) (pos 0) +ℤ total v (trades (journal_of S))
trades_more v S x = grind (arith, ints)

left_same : (b : Bool) (l h : ℤ) → l ≡ l +ℤ cond b (h -ℤ h) (pos 0)
left_same b l h = grind (arith, ints)

trade_taken : (f : Entry → ℤ) (last : Option Day) (d : Day) (S : State) (cmd : Command) → total (settles f last d) (trades (journal_of (next S cmd)))
    ≡ option_map_or (λ x. total f (trade_entries (pend_of x))) (option_and_then (λ x. cond (is_within last d x.date) (Some x) None) (accepted_of traded cmd (answer S cmd))) (pos 0) +ℤ total (settles f last d) (trades (journal_of S))
trade_taken f last d S cmd = grind (arith, nat_tests)

-- what an activity books is a trade's or a movement's
books_parts : (f : Entry → ℤ) (before : Option Day) (S : State) (x : Activity) → NoneHolds (rules S.opening (journal_of S) x) → IsAfter before (date S.opening (journal_of S)) → is_close x ≡ false
    → total f (entries S.opening (journal_of S) x) ≡ option_map_or (λ t. settles f before (date S.opening (journal_of S)) (pend_of t)) (traded x) (pos 0) +ℤ cond (is_movement (Command.Activity x)) (total f (entries S.opening (journal_of S) x)) (pos 0)
books_parts f before S (Activity.Trade t) none after is = let e = trade_settles f S.opening (journal_of S) before t none after in e ∙ omega (arith, ints)
books_parts f before S (Activity.Close d) none after is = cc
books_parts f before S x none after is = omega (arith, ints)

-- a record that closes a day
pub record IsClose (S : State) (l : Line) (d : Day) : Type 0 where
  pub next : Day
  pub line : l ≡ Ok (Command.Activity (Activity.Close next))
  pub none : NoneHolds (rules S.opening (journal_of S) (Activity.Close next))
  pub date : d ≡ date S.opening (journal_of S)

pub closing_line : (S : State) (l : Line) (d : Day) → day_closed S l ≡ Some d → IsClose S l d
closing_line S l d h1 = grind arith

pub state_line : (b : Log) (l : Line) → state_of (log_after_line b l) ≡ state_after_line (state_of b) l
state_line b l = grind arith

-- no question closes a day
not_closed : (o : Option Refusal) (r : Reply) → date_told r ≡ None → date_told (option_map_or Reply.Refused o r) ≡ None
not_closed o r is = grind arith

no_lines : (b : Bool) (ls : List HistoryLine) → ls ++ cond b [] [] ≡ ls
no_lines b ls = grind (arith, append-nil)

last_of-append : (before : Option Day) (cs ds : List (ℕ × Day)) → last_of before (cs ++ ds) ≡ last_of (last_of before cs) ds
last_of-append before [] ds = refl
last_of-append before (c ∷ cs) ds = last_of-append (Some c.1) cs ds

-- of lines at a place alone is its fold
fold_kept : (k : Key) (m : Moves) (ls : List HistoryLine) → fold (with_line k) m ls ≡ fold (with_line k) m (filter (is_line_at k) ls)
fold_kept k m [] = refl
fold_kept k m (l ∷ ls) = grind (arith, fold_kept k (with_line k m l) ls)

module _ {k : Key} {w : Width} {pick : ℤ → ℤ → ℤ} {c : ℕ} (low : k.account < 10000) (counted : IsCounted k w pick c) where
  abbrev f : Entry → ℤ
  f = entry_at pick k

  -- by what an activity changes what stands here
  abbrev change : State → Activity → ℤ
  change S x = of_held pick (standing (next S (Command.Activity x)) k) -ℤ of_held pick (standing S k)

  change_few : (S : State) (x : Activity) → IsWhole S.opening (journal_of S) → IsLineInRange (Ok (Command.Activity x)) → is_named x ≡ true → unsigned_abs (change S x) ≤ c
  change_few S x whole range named =
      at_next (λ T. unsigned_abs (of_held pick (standing T k) -ℤ of_held pick (standing S k)) ≤ c) S x (omega (arith, ints))
      (λ none. omega (arith, ints, counted.held S x whole none (grind arith), total_small f (entries S.opening (journal_of S) x), added-more (λ e. unsigned_abs (f e)) (λ e. unsigned_abs (of_entry pick e)) (entries S.opening (journal_of S) x) (λ e. grind arith), counted.named S x range none named))

  -- the line of what a movement booked here
  line_more : (m : Moves) (v z : ℤ) (n : ℕ) (b : Booking) (t : Bool) → Comes w pick m v n → is_nothing b ≡ t → pick b.shares b.cents ≡ z → is_line_at k (HistoryLine.Booking b) ≡ true → is_movement (Command.Activity b.activity) ≡ true
      → (is_named b.activity ≡ true → unsigned_abs z ≤ c) → Comes w pick (fold (with_line k) m (option_to_list (cond t None (Some (HistoryLine.Booking b))))) (v +ℤ z) (n + c)
  line_more m v z n b true come none is here moves few = same counted.picked m v (v +ℤ z) n (n + c) come (grind (arith, ints, counted.picked.none)) (omega arith)
  line_more m v z n b false come some is here moves few =
      let e : cond (is_named b.activity) (unsigned_abs (pick b.shares b.cents)) 0 ≤ c = grind arith in
      rw here (same counted.picked _ _ (v +ℤ z) _ (n + c) (cause_more counted.picked m v n b b.activity come) (rw (moves, is) refl) (omega (arith, e)))

  -- what an open day booked but its trades
  abbrev left : Option Day → Day → State → ℤ
  left before day S = all_booked f (open_day (journal_of S)) -ℤ total (settles f before day) (trades (journal_of S))

  module _ (d : Day) where
    -- of an open day, after the day before, if there was one: the settled trades and what was seen were booked, where it is the one
    pub record Told (before : Option Day) (S : State) (ls : List HistoryLine) (u : ℕ) : Type 0 where
      pub seen : ℤ
      pub after : IsAfter before (date S.opening (journal_of S))
      pub late : int_lt (day_number (date S.opening (journal_of S))) (day_number d) ≡ true → seen ≡ pos 0
      pub sum : date S.opening (journal_of S) ≡ d → left before d S ≡ seen
      pub comes : (m : Moves) (v : ℤ) (n : ℕ) → Comes w pick m v n → Comes w pick (fold (with_line k) m ls) (v +ℤ seen) (n + u)

    -- what closes no day leaves its date, and books trades and movements
    stays : (before : Option Day) (S : State) (x : Activity) → IsWhole S.opening (journal_of S) → IsAfter before (date S.opening (journal_of S)) → day_closed S (Ok (Command.Activity x)) ≡ None
        → let T = next S (Command.Activity x) in let D = date S.opening (journal_of S) in
        (date T.opening (journal_of T) ≡ D) × (left before D T ≡ left before D S +ℤ cond (is_movement (Command.Activity x)) (change S x) (pos 0))
    stays before S x whole after stay =
        let D = date S.opening (journal_of S) in
        at_next (λ T. (date T.opening (journal_of T) ≡ D) × (left before D T ≡ left before D S +ℤ cond (is_movement (Command.Activity x)) (of_held pick (standing T k) -ℤ of_held pick (standing S k)) (pos 0))) S x
        (refl, left_same (is_movement (Command.Activity x)) (left before D S) (of_held pick (standing S k)))
        (λ none. let ends : is_close x ≡ false = grind arith in
        let told : cond (is_movement (Command.Activity x)) (of_held pick (standing (more S x) k) -ℤ of_held pick (standing S k)) (pos 0) ≡ cond (is_movement (Command.Activity x)) (total f (entries S.opening (journal_of S) x)) (pos 0) =
        ap (λ z. cond (is_movement (Command.Activity x)) z (pos 0)) (omega (arith, ints, counted.held S x whole none ends)) in
        (grind arith, omega (arith, ints, ap (λ b. total f (entries S.opening (journal_of S) x) +ℤ all_booked f (cond b [] (open_day (journal_of S)))) ends, books_parts f before S x none after ends, trades_more (settles f before D) S x, told)))

    told_activity : (before : Option Day) (j : ℕ) (S : State) (x : Activity) (ls : List HistoryLine) (u : ℕ) → IsWhole S.opening (journal_of S) → IsLineInRange (Ok (Command.Activity x)) → day_closed S (Ok (Command.Activity x)) ≡ None
        → Told before S ls u → Told before (next S (Command.Activity x)) (ls ++ lines_of (Watched.Movements d) j S (Ok (Command.Activity x))) (u + cond (is_movement (Command.Activity x)) c 0)
    told_activity before j S x ls u whole range stay t =
        let is = stays before S x whole t.after stay in
        record {
          seen = t.seen +ℤ cond (is_open S d) (cond (is_movement (Command.Activity x)) (change S x) (pos 0)) (pos 0);
          after = subst (IsAfter before) (sym is.0) t.after;
          late = λ later. let was = subst (λ e. int_lt (day_number e) (day_number d) ≡ true) is.0 later in let other : is_open S d ≡ false = grind (arith, ints) in rw other (omega (arith, ints, t.late was));
          sum = λ today. let here = sym is.0 ∙ today in let one : is_open S d ≡ true = grind (arith, ints) in
              rw one (subst (λ e. left before e (next S (Command.Activity x)) ≡ left before e S +ℤ cond (is_movement (Command.Activity x)) (change S x) (pos 0)) here is.1 ∙ ap (λ z. z +ℤ _) (t.sum here));
          comes = λ m v n come. rw (fold-append (with_line k) m ls (lines_of (Watched.Movements d) j S (Ok (Command.Activity x))))
              (same counted.picked _ _ _ _ _ (by (is_open S d) (is_movement (Command.Activity x)) refl _ _ _ (t.comes m v n come)) (omega (arith, ints)) (omega arith));
        }
      where
        by : (o b : Bool) → is_movement (Command.Activity x) ≡ b → (m : Moves) (v : ℤ) (n : ℕ) → Comes w pick m v n
            → Comes w pick (fold (with_line k) m (cond o (cond b (bookings_at Whose.All j S (Ok (Command.Activity x))) []) [])) (v +ℤ cond o (cond b (change S x) (pos 0)) (pos 0)) (n + cond b c 0)
        by true true is m v n come =
            rw (fold_kept k m (bookings_at Whose.All j S (Ok (Command.Activity x))), movement_at k j S x low whole is) (line_more m v (change S x) n _ _ come refl (counted.less _ _ _ _) (grind (arith, same_key, nat_tests, bytes_refl k.issue)) is (change_few S x whole range))
        by _ _ is m v n come = same counted.picked m v _ n _ come (omega (arith, ints)) (omega arith)

    told_close : (before : Option Day) (S : State) (e : Day) (ls : List HistoryLine) (u : ℕ) → NoneHolds (rules S.opening (journal_of S) (Activity.Close e))
        → Told before S ls u → Told (Some (date S.opening (journal_of S))) (more S (Activity.Close e)) ls u
    told_close before S e ls u none t =
        let after = later (day_number e) (day_number (date S.opening (journal_of S))) (all_fail (rules S.opening (journal_of S) (Activity.Close e)) none).0 in
        record { seen = t.seen; after = after; late = λ later. t.late (grind (arith, ints)); sum = λ today. grind (arith, ints, close_settles f S.opening (journal_of S) e, t.late); comes = t.comes }

    module _ (last : Option Day) where
      -- ---- the history

      -- a log's state is within its limits, and its trades that settle come to a number
      pub record Kept (b : Log) (n t : ℕ) : Type 0 where
        pub reached : IsReached (state_of b).opening (state_of b).accepted
        pub count : length b.history ≤ n
        pub accepted : length (state_of b).accepted ≤ n
        pub taken : Comes w pick (fold (with_taken last d k) unmoved (reverse b.history)) (total (settles f last d) (trades (journal_of (state_of b)))) t

      -- what its trade can book
      abbrev size_taken : Command → Reply → ℕ
      size_taken cmd r = option_map_or (λ x. magnitude (of_entry pick) (trade_entries (pend_of x))) (option_and_then (λ x. cond (is_within last d x.date) (Some x) None) (accepted_of traded cmd r)) 0

      pub size_few : (cmd : Command) (r : Reply) → IsLineInRange (Ok cmd) → size_taken cmd r + cond (is_movement cmd) c 0 ≤ c
      size_few cmd r range = grind (arith, counted.traded)

      pub kept_more : (b : Log) (n t : ℕ) (cmd : Command) → IsLineInRange (Ok cmd) → Kept b n t → Kept (log_after_line b (Ok cmd)) (n + 1) (t + size_taken cmd (answer (state_of b) cmd))
      kept_more b n t cmd range o =
          let taken = taken_last counted.picked k last d b.history _ _ t _ o.taken (omega arith) in
          record { reached = reached-from (state_of b) (cmd ∷ []) (range.0, tt) o.reached; count = omega (arith, o.count); accepted = grind (arith, o.accepted); taken = rw (trade_taken f last d (state_of b) cmd) taken }

      -- both, and how far they can take the position
      pub record Open (before : Option Day) (b : Log) (ls : List HistoryLine) (n : ℕ) : Type 0 where
        pub t : ℕ
        pub u : ℕ
        pub kept : Kept b n t
        pub told : Told before (state_of b) ls u
        pub few : t + u ≤ c * n

      pub at_first : (opening : Day) → Open None (blank_log opening) [] 0
      at_first opening =
          let told : Told None (opened opening) [] 0 = record { seen = pos 0; after = refl; late = λ h. refl; sum = λ h. refl; comes = λ m v n come. same counted.picked m v _ n _ come (omega (arith, ints)) (omega arith) } in
          record { t = 0; u = 0; kept = record { reached = tt; count = omega arith; accepted = omega arith; taken = grind (arith, ints, counted.picked.none) }; told = told; few = omega arith }

      -- a record more
      open_more : (before : Option Day) (b : Log) (ls : List HistoryLine) (n : ℕ) (l : Line) → IsLineInRange l → Open before b ls n
          → Open (last_of before (option_to_list (option_map (λ e. (n + 1, e)) (day_closed (state_of b) l)))) (log_after_line b l) (ls ++ lines_of (Watched.Movements d) (n + 1) (state_of b) l) (n + 1)
      open_more before b ls n (Err e) range o = grind (arith, append-nil)
      open_more before b ls n (Ok (Command.Position q)) range o =
          record { t = _; u = o.u; kept = kept_more b n o.t (Command.Position q) range o.kept; told = rw (not_closed _ (Reply.Held _) refl, no_lines (is_open (state_of b) d) ls) o.told; few = omega (arith, o.few, size_few (Command.Position q) (answer (state_of b) (Command.Position q)) range) }
      open_more before b ls n (Ok (Command.Statement a e)) range o =
          record { t = _; u = o.u; kept = kept_more b n o.t (Command.Statement a e) range o.kept; told = rw (not_closed _ (Reply.Stated _) refl, no_lines (is_open (state_of b) d) ls) o.told; few = omega (arith, o.few, size_few (Command.Statement a e) (answer (state_of b) (Command.Statement a e)) range) }
      open_more before b ls n (Ok (Command.Activity x)) range o = by (day_closed (state_of b) (Ok (Command.Activity x))) refl
        where
          by : (e : Option Day) → day_closed (state_of b) (Ok (Command.Activity x)) ≡ e
              → Open (last_of before (option_to_list (option_map (λ e. (n + 1, e)) e))) (log_after_line b (Ok (Command.Activity x))) (ls ++ lines_of (Watched.Movements d) (n + 1) (state_of b) (Ok (Command.Activity x))) (n + 1)
          by None is =
              record { t = _; u = _; kept = kept_more b n o.t (Command.Activity x) range o.kept; told = told_activity before (n + 1) (state_of b) x ls o.u (limited _ _ o.kept.reached).whole range is o.told; few = omega (arith, o.few, size_few (Command.Activity x) (answer (state_of b) (Command.Activity x)) range) }
          by (Some e) is =
              let z = closing_line (state_of b) (Ok (Command.Activity x)) e is in
              let told = told_close before (state_of b) z.next ls o.u z.none o.told in
              record { t = _; u = o.u; kept = kept_more b n o.t (Command.Activity x) range o.kept; told = grind (arith, append-nil, z.line, z.date, z.none); few = omega (arith, o.few, size_few (Command.Activity x) (answer (state_of b) (Command.Activity x)) range) }

      pub all_records : (front : List Line) (before : Option Day) (b : Log) (ls : List HistoryLine) (n : ℕ) → AllByRecursion IsLineInRange front → Open before b ls n
          → Open (last_of before (closes n (state_of b) front)) (log_after b front) (ls ++ history (Watched.Movements d) n (state_of b) front) (n + length front)
      unfolding closes log_after history
      all_records [] before b ls n range o = grind (arith, append-nil ls)
      all_records (l ∷ front) before b ls n range o =
          let more : n + length (l ∷ front) ≡ n + 1 + length front = omega arith in
          rw (← state_line b l, last_of-append before (option_to_list (option_map (λ e. (n + 1, e)) (day_closed (state_of b) l))) _, ← append_assoc ls (lines_of (Watched.Movements d) (n + 1) (state_of b) l), more)
          (all_records front _ _ _ (n + 1) range.1 (open_more before b ls n l range.0 o))
