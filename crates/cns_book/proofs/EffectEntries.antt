-- Entries, booked one after another.
-- For `book` and `prepare` of effect.rt, `book_fills` of buy_in.rt, and every command, clause step.
use Rattle.cns_book.proofs.Common.{◌≡◌, ◌∙◌, sym, subst, refl, ℕ, suc, ◌+◌, ◌*◌, ◌^◌, ◌≤◌, ◌<◌, ℤ, pos, ◌+ℤ◌, true, List, [], ◌∷◌, ◌++◌, length, take, get_or, arith, unsigned_abs, Contains, AreSmallEntries, Entry, Holding, IsSmallEntry, Key, Rows, booking_limit, books, cents_for, corporation_limit, has_row, holding_at, ints, shares_for, take_more, total, total-append, booked, AreThere, AreWithin, entry_key, places_of, All-from_recursion, recursion_from_All, All-take, length-take, false, None, Journal, Posting, exchanged, holding, is_close, zero_add, carried_same, zero, ◌==◌, map, eqb-true, AreApart, CanBeExecuted, CanBeFilled, Execution, Fill, Notice, entries_by, eqb_sym, fill_entry, filled_at, map-append, originator_at, Given, CanBeBought, notice_of}

-- a posting that closes no day and exchanges no issue books its entries
pub holding-post : (p : Posting) (J : Journal) (k : Key) → is_close p.activity ≡ false → exchanged p.activity ≡ None → holding (p ∷ J) k.account k.issue ≡ books p.entries k (holding J k.account k.issue)
holding-post p J k still none = grind (arith, carried_same p J k.account k.issue still none)

-- without entries it leaves what stands
pub books_none : (k : Key) (h : Holding) → books [] k h ≡ h
books_none k h = λ i. record h { now = zero_add h.now i; contract = zero_add h.contract i }

one_last : (a b q : ℤ) → (a +ℤ (b +ℤ pos 0)) +ℤ q ≡ (a +ℤ q) +ℤ b
one_last a b q = omega (arith, ints)

-- one entry more
pub books_more : (es : List Entry) (e : Entry) (k : Key) (h : Holding) → booked e k (books es k h) ≡ books (es ++ e ∷ []) k h
books_more es e k h = grind (arith, total-append, one_last)

pub books_step : (es : List Entry) (i : ℕ) (e : Entry) (k : Key) (h : Holding) → i < length es → e ≡ get_or es i e → booked e k (books (take i es) k h) ≡ books (take (i + 1) es) k h
books_step es i e k h lt is = grind (arith, books_more, take, take_more)

-- the place of an entry among them has a row
pub place_there : (rows : Rows) (es : List Entry) (i : ℕ) (e : Entry) → AreThere rows es → i < length es → e ≡ get_or es i e → has_row rows (entry_key e) ≡ true
place_there rows es i e a lt is = rw is (All-from_recursion (λ x. has_row rows (entry_key x) ≡ true) es a i e lt)

small_few : (f : Entry → ℤ) (n : ℕ) → ((e : Entry) → IsSmallEntry e → unsigned_abs (f e) ≤ n) → (es : List Entry) → AreSmallEntries es → unsigned_abs (total f es) ≤ n * length es
small_few f n small [] h = omega arith
small_few f n small (e ∷ es) h = grind (arith, ints, small e h.0, small_few f n small es h.1)

small_first : (es : List Entry) (i : ℕ) → AreSmallEntries es → AreSmallEntries (take i es)
small_first es i h = recursion_from_All IsSmallEntry (take i es) (All-take IsSmallEntry i es (All-from_recursion IsSmallEntry es h))

-- what stands while entries are booked is small enough for one more
pub shares_fit : (es : List Entry) (i : ℕ) (rows : Rows) (k : Key) → AreSmallEntries es → length es ≤ 10 ^ 4 → AreWithin rows → unsigned_abs (books (take i es) k (holding_at rows k)).now ≤ 2 ^ 62
shares_fit es i rows k small few w = omega (arith, ints, small_few (shares_for k.account k.issue) corporation_limit (λ e h. grind (arith, h.shares)) (take i es) (small_first es i small), length-take i es, w.shares k)

pub cents_fit : (es : List Entry) (i : ℕ) (rows : Rows) (k : Key) → AreSmallEntries es → length es ≤ 10 ^ 4 → AreWithin rows → unsigned_abs (books (take i es) k (holding_at rows k)).contract ≤ 2 ^ 126
cents_fit es i rows k small few w = omega (arith, ints, small_few (cents_for k.account k.issue) booking_limit (λ e h. grind (arith, h.cents)) (take i es) (small_first es i small), length-take i es, w.cents k)

-- the keys of both are their places
pub both_places : (es : List Entry) (a b : Entry) (p q : Key) → length es ≡ 2 → p ≡ entry_key (get_or es 0 a) → q ≡ entry_key (get_or es 1 b) → p ∷ q ∷ [] ≡ places_of es
both_places (x ∷ y ∷ []) a b p q two own other = cc
both_places _ a b p q two own other = cc

-- where each of their places has a row, each entry's has
pub each_there : (rows : Rows) (es : List Entry) → ((k : Key) → Contains (places_of es) k → has_row rows k ≡ true) → AreThere rows es
each_there rows [] h = tt
each_there rows (x ∷ es) h = (h (entry_key x) (0, omega arith, refl), each_there rows es (λ k c. h k (suc c.0, omega (arith, c.1), c.2)))

-- an entry for another account passes a key by
passed : (e : Entry) (es : List Entry) (k : Key) (h : Holding) → (e.account == k.account) ≡ false → books (e ∷ es) k h ≡ books es k h
passed e es k h apart = grind (arith, ints)

-- fills for others pass the next one's key by
others_passed : (n : Notice) (fs : List Fill) (i : ℕ) (f : Fill) (h : Holding) → AreApart fs → i < length fs → f ≡ get_or fs i f → books (map (fill_entry n) (take i fs)) (filled_at n.given f) h ≡ h
others_passed n [] i f h a lt is = absurd (omega (arith, lt))
others_passed n (g ∷ fs) zero f h a lt is = books_none (filled_at n.given f) h
others_passed n (g ∷ fs) (suc i) f h a lt is = passed (fill_entry n g) (map (fill_entry n) (take i fs)) (filled_at n.given f) h (eqb_sym g.member f.member ∙ subst (λ (e : Fill). (e.member == g.member) ≡ false) (sym is) (All-from_recursion (λ (e : Fill). (e.member == g.member) ≡ false) fs a.0 i f (omega (arith, lt)))) ∙ others_passed n fs i f h a.1 (omega (arith, lt)) is

-- who is long is not who is short
long_or_short : (rows : Rows) (g : Given) (f : Fill) → CanBeBought (holding_at rows (originator_at g)) → CanBeFilled (holding_at rows (filled_at g f)) f → (g.member == f.member) ≡ false
long_or_short rows g f long short = grind (arith, ints, eqb-true)

-- before its fill a member's holding is as it was
still_held : (rows : Rows) (x : Execution) (g : Given) (fs : List Fill) (i : ℕ) (f : Fill) → CanBeBought (holding_at rows (originator_at g)) → CanBeFilled (holding_at rows (filled_at g f)) f → AreApart fs → i < length fs → f ≡ get_or fs i f
    → books (entries_by x g (take i fs)) (filled_at g f) (holding_at rows (filled_at g f)) ≡ holding_at rows (filled_at g f)
still_held rows x g fs i f long short apart lt is = grind (arith, passed, long_or_short rows g f long short, others_passed (notice_of x g) fs i f (holding_at rows (filled_at g f)) apart lt is)

-- the entries up to a fill were booked
abbrev AreBooked : Rows → Rows → Execution → Given → List Fill → ℕ → Type 0
AreBooked rows now x g fs i = (k : Key) → holding_at now k ≡ books (entries_by x g (take i fs)) k (holding_at rows k)

-- then it can be booked too
pub next_can : (rows now : Rows) (x : Execution) (g : Given) (fs : List Fill) (i : ℕ) (f : Fill) → CanBeExecuted rows g fs → AreBooked rows now x g fs i → i < length fs → f ≡ get_or fs i f → CanBeFilled (holding_at now (filled_at g f)) f
next_can rows now x g fs i f can done lt is = grind (arith, All-from_recursion (λ e. CanBeFilled (holding_at rows (filled_at g e)) e) fs can.filled i f lt, done (filled_at g f), still_held rows x g fs i f)

-- and then one more is booked
pub next_booked : (rows now after : Rows) (x : Execution) (g : Given) (fs : List Fill) (i : ℕ) (f : Fill) → AreBooked rows now x g fs i → ((k : Key) → holding_at after k ≡ booked (fill_entry (notice_of x g) f) k (holding_at now k)) → i < length fs → f ≡ get_or fs i f → AreBooked rows after x g fs (i + 1)
next_booked rows now after x g fs i f done step lt is k = grind (arith, step k, done k, books_more (entries_by x g (take i fs)) (fill_entry (notice_of x g) f) k (holding_at rows k), map-append, take_more fs i f lt)
