-- What moved a position adds up.
-- For `moves_add_up` of laws.rt.
use Rattle.cns_account.proofs.Common.{row_key, ◌*◌, ◌≡◌, ◌∙◌, sym, ap, refl, ℕ, ◌+◌, ◌-◌, ◌^◌, ◌<◌, ◌≤◌, ℤ, ◌+ℤ◌, List, [], ◌∷◌, ◌++◌, length, option_map, option_to_list, reverse, Option, Some, None, Ok, arith, Pend, total, trades, next, Width, AllByRecursion, ints, take_all, Day, State, journal_of, length-reverse, open_day, opened, row, Key, Row, Log, state_of, Line, state_after_line, blank_log, log_after_line, IsLineInRange, IsReached, MovesAddUp, day_closed, last_of, of_causes, moved_at, Moves, subst, Taken, looked_at, answer, unsigned_abs, amount_limit, limited, Command, Activity, AddUp, Watched, ◌⊎◌, inl, inr, nil_from_length, flat_map, map, not, Journal, accounts, date, each_append, equal, exact_keys, is_idle, issues, journal, key_cmp, price, price_limit, rows_of, sheet_rows, Cusip, row_at, row_on, is_eq, filter, cond_both, Account, log_after, history, closes}
use Rattle.cns_account.proofs.Recorded.{all_booked, open_parts, settles, IsClose, IsCounted, all_records, at_first, cents_counted, closing_line, kept_more, shares_counted, size_few, state_line}
use Rattle.cns_account.proofs.Marked.{marked}
use Rattle.cns_history.proofs.Limits.{standing_small}
use Rattle.cns_account.proofs.Named.{stands, more}
use Rattle.cns_account.proofs.Summed.{Comes, entry_at, exact, same}

module _ (opening : Day) (K : Journal) where
  -- a row is that of its place
  abbrev IsPlaced : Row → Type 0
  IsPlaced r = r ≡ row opening K r.account r.issue

  placed_of : (a : Account) (cs : List Cusip) → AllByRecursion IsPlaced (filter (λ r. not (is_idle r)) (map (row opening K a) cs))
  placed_of a [] = tt
  placed_of a (c ∷ cs) = grind (arith, placed_of a cs)

  placed_all : (bs : List Account) → AllByRecursion IsPlaced (flat_map (rows_of opening K) bs)
  placed_all [] = tt
  placed_all (a ∷ bs) = each_append IsPlaced (rows_of opening K a) (flat_map (rows_of opening K) bs) (placed_of a (issues K)) (placed_all bs)

  found_row : (rows : List Row) (k : Key) (r : Row) → AllByRecursion IsPlaced rows → row_at rows k ≡ Some r → r ≡ row opening K k.account k.issue
  found_row [] k r all is = cc
  found_row (x ∷ rows) k r all is =
      cond_both (is_eq (key_cmp k (row_key x))) (Some x) (row_at rows k) (λ o. o ≡ Some r → r ≡ row opening K k.account k.issue)
      (λ same e. let first : r ≡ x = cc in first ∙ all.0 ∙ ap (λ (q : Key). row opening K q.account q.issue) (sym (exact_keys k (row_key x) (equal _ same)))) (λ other. found_row rows k r all.1) is

  pub row_is : (k : Key) (r : Row) → row_at (sheet_rows opening K) k ≡ Some r → r ≡ row opening K k.account k.issue
  row_is k r is = found_row (sheet_rows opening K) k r (placed_all (accounts K)) is

-- the row on the sheet of the day that the last close ended
pub last_row : (S : State) (next : Day) (k : Key) (r : Row) → row_on (more S (Activity.Close next)) k (date S.opening (journal_of S)) ≡ Some r → r ≡ row S.opening (journal_of S) k.account k.issue
last_row S next k r h1 = grind (arith, row_is)

-- no price is beyond its limit
pub price_few : (opening : Day) (L : List Activity) (c : Cusip) → IsReached opening L → price (journal opening L) c ≤ price_limit
price_few opening [] c r = omega arith
price_few opening (x ∷ L) c r = let range = r.0 in grind (arith, price_few opening L c r.2)

-- ---- the last close

-- records that end with a close, and those before it
pub record IsLast (n : ℕ) (b : Log) (ls : List Line) (cs : List (ℕ × Day)) (d : Day) : Type 0 where
  pub front : List Line
  pub line : Line
  pub range : AllByRecursion IsLineInRange front
  pub count : length ls ≡ length front + 1
  pub before : closes n (state_of b) front ≡ cs
  pub close : IsClose (state_of (log_after b front)) line d
  pub log : log_after b ls ≡ log_after_line (log_after b front) (Ok (Command.Activity (Activity.Close close.next)))
  pub told : history (Watched.Movements d) n (state_of b) ls ≡ history (Watched.Movements d) n (state_of b) front

-- where the first of some closes stands apart, the last is that one, or is among the rest
last_left : (o : Option Day) (n m : ℕ) (d : Day) (rest cs : List (ℕ × Day)) → option_to_list (option_map (λ e. (n, e)) o) ++ rest ≡ cs ++ (m, d) ∷ []
    → ((o ≡ Some d) × (n ≡ m) × (cs ≡ []) × (rest ≡ [])) ⊎ ((ds : List (ℕ × Day)) × (option_to_list (option_map (λ e. (n, e)) o) ++ ds ≡ cs) × (rest ≡ ds ++ (m, d) ∷ []))
last_left None n m d rest cs is = inr (cs, refl, is)
last_left (Some e) n m d rest [] is = let head : ◌≡◌ {A = ℕ × Day} (n, e) (m, d) = cc in inl (ap (λ (p : ℕ × Day). Some p.1) head, ap (λ (p : ℕ × Day). p.0) head, refl, cc)
last_left (Some e) n m d rest (c ∷ cs) is = inr (cs, cc, cc)

split : (ls : List Line) (n : ℕ) (b : Log) (cs : List (ℕ × Day)) (d : Day) → AllByRecursion IsLineInRange ls → closes n (state_of b) ls ≡ cs ++ (n + length ls, d) ∷ [] → IsLast n b ls cs d
unfolding closes log_after history
split [] n b [] d range is = cc
split [] n b (c ∷ cs) d range is = cc
split (l ∷ ls) n b cs d range is = elim (last_left (day_closed (state_of b) l) (n + 1) (n + length (l ∷ ls)) d (closes (n + 1) (state_after_line (state_of b) l) ls) cs is) [
  | inl h ↦
      let z = closing_line (state_of b) l d h.0 in
      let none : ls ≡ [] = nil_from_length ls (omega (arith, h.1)) in
      rw (none, h.2) (record { front = []; line = l; range = tt; count = omega arith; before = refl; close = z; log = grind (arith, z.line); told = grind (arith, z.line) })
  | inr h ↦
      let z = split ls (n + 1) (log_after_line b l) h.0 d range.1 (rw (state_line b l) (h.2 ∙ ap (λ m. h.0 ++ (m, d) ∷ []) (omega arith))) in
      rw (← h.1) (record { front = l ∷ z.front; line = z.line; range = (range.0, z.range); count = omega (arith, z.count); before = grind (arith, z.before, state_line b l); close = z.close; log = z.log; told = grind (arith, z.told, state_line b l) })
]

-- ---- all causes

close_trades : (v : Pend → ℤ) (S : State) (e : Day) → total v (trades (journal_of (next S (Command.Activity (Activity.Close e))))) ≡ total v (trades (journal_of S))
close_trades v S e = grind arith

module _ (k : Key) (opening : Day) (ls : List Line) (cs : List (ℕ × Day)) (d : Day) (low : k.account < 10000) (z : IsLast 0 (blank_log opening) ls cs d) where
  -- the log before the last close, and its state
  abbrev b : Log
  b = log_after (blank_log opening) z.front

  abbrev S : State
  S = state_of b

  abbrev m : Moves
  m = moved_at (last_of None cs) d (reverse (log_after_line b (Ok (Command.Activity (Activity.Close z.close.next)))).history) (history (Watched.Movements d) 0 (opened opening) z.front) k

  -- what moved the position comes to what was booked since the close before
  came : {w : Width} {pick : ℤ → ℤ → ℤ} {c : ℕ} → IsCounted k w pick c → Comes w pick m (all_booked (entry_at pick k) (open_day (journal_of S))) (c * (length z.front + 1))
  came {w} {pick} {c} counted =
      let o = rw z.before at (all_records low counted d (last_of None cs) z.front None (blank_log opening) [] 0 z.range (at_first low counted d (last_of None cs) opening)) in
      let ends = Command.Activity (Activity.Close z.close.next) in
      let kept = kept_more low counted d (last_of None cs) b (0 + length z.front) o.t ends (tt, tt) o.kept in
      same counted.picked m _ (all_booked (entry_at pick k) (open_day (journal_of S))) _ (c * (length z.front + 1)) (o.told.comes _ _ _ kept.taken)
      (omega (arith, ints, o.told.sum (sym z.close.date), close_trades (settles (entry_at pick k) (last_of None cs) d) S z.close.next)) (omega (arith, o.few, size_few low counted d (last_of None cs) ends (answer S ends) (tt, tt)))

  reached : IsReached S.opening S.accepted × (length S.accepted ≤ length z.front) × (length b.history ≤ length z.front)
  reached = let o = all_records low (shares_counted k) d None z.front None (blank_log opening) [] 0 z.range (at_first low (shares_counted k) d None opening) in (o.kept.reached, omega (arith, o.kept.accepted), omega (arith, o.kept.count))

  adds_up : (r : Row) → length ls < 2 ^ 32 - 1 → r ≡ row S.opening (journal_of S) k.account k.issue → AddUp r m
  adds_up r short is =
      let s = came (shares_counted k) in
      let c = came (cents_counted k) in
      let small = standing_small S k reached.0 (omega (arith, reached.1, z.count)) in
      let stand = stands S k (limited S.opening S.accepted reached.0).whole.now in
      let money : unsigned_abs r.money ≤ amount_limit = rw (is, ← stand.cents) small.cents in
      let shares = exact m (all_booked (entry_at (λ s c. s) k) (open_day (journal_of S))) _ s (omega (arith, ints, z.count, open_parts (entry_at (λ s c. s) k) (journal_of S), rw stand.shares at small.shares, rw stand.found at small.found)) in
      let sum : r.opening +ℤ of_causes (λ x. x.shares) m ≡ r.closing = rw is (omega (arith, ints, shares, open_parts (entry_at (λ s c. s) k) (journal_of S))) in
      let all : of_causes (λ x. x.cents) m ≡ r.money = rw is (exact m (all_booked (entry_at (λ s c. c) k) (open_day (journal_of S))) _ c (omega (arith, ints, z.count, rw is at money))) in
      record { shares = sum; cents = all; mark = marked r m (rw is (price_few S.opening S.accepted k.issue reached.0)) (let few = s.few in let fits = s.fits in let less = c.few in grind (arith, ints)) (rw is refl) sum all }

-- all entries of a short history are looked at
all_of : (H : List Taken) → length H < 2 ^ 32 - 1 → looked_at H ≡ reverse H
all_of H short = take_all (2 ^ 32 - 2) (reverse H) (omega (arith, length-reverse H))

pub moves_add_up : MovesAddUp
moves_add_up k opening ls cs d r low range short closed is =
    let z = split ls 0 (blank_log opening) cs d range (let none : length ls ≡ 0 + length ls = omega arith in closed ∙ ap (λ n. cs ++ (n, d) ∷ []) none) in
    let a = adds_up k opening ls cs d (omega arith) z r short (last_row (state_of (log_after (blank_log opening) z.front)) z.close.next k r (grind (arith, z.log, z.close.date, z.close.none, is))) in
    let all = all_of (log_after_line (log_after (blank_log opening) z.front) (Ok (Command.Activity (Activity.Close z.close.next)))).history (omega (arith, (reached k opening ls cs d (omega arith) z).2, z.count)) in
    subst (AddUp r) (sym ((λ i. moved_at (last_of None cs) d (looked_at (z.log i).history) (z.told i) k) ∙ (λ i. moved_at (last_of None cs) d (all i) (history (Watched.Movements d) 0 (opened opening) z.front) k))) a
