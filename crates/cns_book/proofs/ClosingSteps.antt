-- The close of a day.
-- For `close_day` of parts/closing.rt, clauses step and places.
use Rattle.cns_book.proofs.Common.{◌≡◌, ◌∙◌, refl, ◌+◌, ◌<◌, ℤ, true, false, not, List, [], ◌∷◌, ◌++◌, filter, flat_map, map, Option, Some, None, MatchOption, arith, IfSome, int_le, int_lt, int_cmp, is_le, Activity, AllByRecursion, Contents, Day, DaySheet, Follows, HasRoom, IsAfter, Journal, Key, Liables, Pend, Rows, Traded, batches_since, books, changed_each, closes, closings, date, day, day_number, day_sheet, entries, history_limit, holding, holding_at, ints, is_not_after, journal, journal_len, limited, pending, posting, refusal, rolled, trade_entries, due, is_due, oldest_le, Holding, Booking, makes, expired, expired_by, suc, sym, Contains, Entry, has_row, AreElsewhere, AreApartFrom, places_of, Command, trades_of}
use Rattle.cns_book.proofs.EffectEntries.{books_none}
use Rattle.cns_book.proofs.PendingSteps.{filter-reverse, still_later, closes_le}
use Rattle.cns_book.proofs.PartsStaying.{batches_more}

-- what a close makes of what stands at a key: it is rolled, and then what is due is booked
pub holding_close : (opening : Day) (J : Journal) (d : Day) (k : Key) → closes J + 1 < history_limit → books (entries opening J (Activity.Close d)) k (rolled (holding J k.account k.issue)) ≡ holding (posting opening J (Activity.Close d) ∷ J) k.account k.issue
holding_close opening J d k h = grind (arith, oldest_le)

-- the day that is open is after the one that was closed last
pub after_last : (L : List Activity) (s : Contents) → Follows L s → IsAfter s.today s.sheets
after_last L s f = rw (f.sheets, f.clock.today) (first (closings (journal s.opening L)) (limited s.opening L f.reached).whole.earlier)
  where
    first : (Ks : List Journal) → AllByRecursion (λ K. int_lt (day_number (date s.opening K)) (day_number (date s.opening (journal s.opening L))) ≡ true) Ks → IsAfter (date s.opening (journal s.opening L)) (map (day_sheet s.opening) Ks)
    first [] h = tt
    first (K ∷ Ks) h = h.0

-- one close more can be counted
pub closes_fit : (s : Contents) → HasRoom s → s.closes + 1 < history_limit
closes_fit s r = grind (arith, closes_le, journal_len)

-- a close that is not refused
pub day_closed : (L : List Activity) (s : Contents) (d : Day) (trades : Traded) (rows : Rows) (sheet : DaySheet) (chosen : List Liables) → Follows L s → s.closes + 1 < history_limit → refusal s.opening (journal s.opening L) (Command.Activity (Activity.Close d)) ≡ None
    → trades.references ≡ s.trades.references → trades.pending ≡ filter (λ p. not (is_due d p)) s.trades.pending
    → ((k : Key) → holding_at rows k ≡ books (flat_map trade_entries (filter (is_due d) s.trades.pending)) k (rolled (holding_at s.rows k))) → sheet ≡ day_sheet s.opening (journal s.opening L)
    → chosen ≡ batches_since (journal s.opening L) (journal s.opening L)
    → Follows (Activity.Close d ∷ L) (record s { today = d; closes = s.closes + 1; trades = trades; rows = rows; sheets = sheet ∷ s.sheets; notices = map (expired (s.closes + 1)) s.notices; batches = s.batches ++ chosen ∷ [] })
day_closed L s d trades rows sheet chosen f few none used left h is liable =
    let later : is_not_after d (date s.opening (journal s.opening L)) ≡ false = grind arith in
    grind (arith, f, filter-reverse (is_due d) (pending s.opening (journal s.opening L)), filter-reverse (λ p. not (is_due d p)) (pending s.opening (journal s.opening L)), still_later (date s.opening (journal s.opening L)) d (trades_of (journal s.opening L)) later, holding_close, changed_each (journal s.opening L) (posting s.opening (journal s.opening L) (Activity.Close d)) (expired (day (journal s.opening L))) (λ k y. expired_by (day (journal s.opening L)) y), batches_more s.opening (journal s.opening L) d)

-- the rows with which a day opens: rolled, and with what is due booked, if anything is
pub opened_rows : (o : Option (List Booking)) (ps : List Pend) (old new : Rows)
    → MatchOption o (ps ≡ []) (λ b. (k : Key) (h : Holding) → makes b k h ≡ books (flat_map trade_entries ps) k h)
    → (o ≡ None → (k : Key) → holding_at new k ≡ rolled (holding_at old k)) → IfSome o (λ b. (k : Key) → holding_at new k ≡ makes b k (rolled (holding_at old k)))
    → (k : Key) → holding_at new k ≡ books (flat_map trade_entries ps) k (rolled (holding_at old k))
opened_rows None ps old new none roll book k = let rolls = roll refl k in let same = books_none k (rolled (holding_at old k)) in grind arith
opened_rows (Some b) ps old new made roll book k = book k ∙ made k (rolled (holding_at old k))

-- a comparison in the words of the definitions
pub le_test : (a b : ℤ) → is_le (int_cmp a b) ≡ int_le a b
le_test a b = grind (arith, ints)

-- a close that names a later day is not refused
pub not_late : (L : List Activity) (s : Contents) (next : Day) → Follows L s → is_le (int_cmp (day_number next) (day_number s.today)) ≡ false → refusal s.opening (journal s.opening L) (Command.Activity (Activity.Close next)) ≡ None
not_late L s next f late = grind arith

-- where a key is none of their places, none of the entries is booked at it
apart : (k : Key) (es : List Entry) → ¬ Contains (places_of es) k → AreApartFrom k es
apart k [] out = tt
apart k (e ∷ es) out = ((λ same. out (0, omega arith, sym same)), apart k es (λ c. out (suc c.0, omega (arith, c.1), c.2)))

-- so it has a row where it had one
pub due_stay : (due : Option (List Booking)) (es : List Entry) (old new : Rows) → IfSome due (λ bs. (k : Key) → AreApartFrom k es → AreElsewhere k bs) → ((k : Key) → IfSome due (AreElsewhere k) → has_row new k ≡ has_row old k) → (k : Key) → ¬ Contains (places_of es) k → has_row new k ≡ has_row old k
due_stay due es old new h1 h2 k h3 = grind (arith, apart)
