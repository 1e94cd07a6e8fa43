-- Trades, deliveries and receipts: what they are refused for, and what they leave.
-- For `book_trade`, `deliver` and `receive` of parts/trading.rt, clause step, and the rows that `prepare` needn't look for.
use Rattle.cns_book.proofs.Common.{◌≡◌, ◌∙◌, sym, ap, refl, ℕ, ◌≤◌, ℤ, Bool, true, false, not, ◌&&◌, ◌||◌, cond, eqb, List, [], ◌∷◌, ◌++◌, reverse, Option, Some, None, arith, is_some, Ok, Err, Account, Activity, Contents, Cusip, Day, Entry, Follows, FollowsNotices, FollowsPending, FollowsReferences, IsInRange, Key, Noticed, Pend, Refusal, Rows, Traded, books, bytes_refl, date, entries, eqb_refl, first_refusal, holding_at, ints, is_close, is_member, is_not_after, is_seen, is_too_large, is_too_large_at, journal, list_any, nat_tests, option_map_or, pend_of, pending, refusal, reverse_onto, sum_by-cons, trade_entries, trade_rules, position, or_false, books_beyond, party, takes_beyond, trade_answer, waits_beyond, is_used, AreTradeFacts, Movement, corporation, moved_in, moved_out, AreThere, delivery_rules, receipt_rules, AreMoveFacts, Command, bought_by, sold_by, eqb_sym, declared, executed, stands}
use Rattle.cns_terms.specs.declared.command.Trade.{Trade}
use Rattle.cns_terms.proofs.Facts.{zero_add}
use Rattle.cns_trades.specs.declared.facts.TradeFacts.{TradeFacts}
use Rattle.cns_book.proofs.EffectEntries.{books_none}
use Rattle.cns_book.proofs.PendingSteps.{bought-reverse, sold-reverse}
use Rattle.cns_book.proofs.PartsStaying.{batches_stay, is_listing, is_noticing, notices_stay, rows_booked}
use Rattle.cns_trades.specs.declared.facts.MoveFacts.{MoveFacts}

-- what an answer says of the refusal
pub answer_err : {X : Type 0} (o : Option Refusal) (es : X) (r : Refusal) → Err r ≡ option_map_or Err o (Ok es) → o ≡ Some r
answer_err o es r h1 = grind arith

pub answer_ok : {X : Type 0} (o : Option Refusal) (es fs : X) → Ok fs ≡ option_map_or Err o (Ok es) → (o ≡ None) × (fs ≡ es)
answer_ok o es fs h1 = grind arith

-- whether a trade is too large, by its parties: whether it books now or is to wait
module _ (before : Account → Cusip → ℤ) (ps : List Pend) (p : Pend) (b : 1 ≤ p.buyer) (s : 1 ≤ p.seller) (apart : eqb p.buyer p.seller ≡ false) where
  pub large_if : (now : Bool) → list_any (is_too_large_at before (cond (not now) (p ∷ ps) ps) (cond now (trade_entries p) [])) (trade_entries p) ≡ cond now (books_beyond (party ps (before p.buyer p.issue) p.buyer p.issue) (party ps (before p.seller p.issue) p.seller p.issue) p) (waits_beyond (party ps (before p.buyer p.issue) p.buyer p.issue) (party ps (before p.seller p.issue) p.seller p.issue) p)
  large_if true = grind (arith, ints, nat_tests, eqb_sym p.seller p.buyer, eqb_refl, bytes_refl, or_false)
  large_if false = grind (arith, nat_tests, zero_add, bytes_refl, eqb_refl, eqb_sym p.seller p.buyer, or_false, sum_by-cons (bought_by p.buyer p.issue) p ps, sum_by-cons (bought_by p.seller p.issue) p ps, sum_by-cons (sold_by p.buyer p.issue) p ps, sum_by-cons (sold_by p.seller p.issue) p ps)

-- a position of some shares has its row: those of a trade's parties
pub trade_stands : (L : List Activity) (s : Contents) (t : Trade) (facts : TradeFacts) → Follows L s → AreTradeFacts s.opening (journal s.opening L) t facts → (stands facts.buyer && stands facts.seller) ≡ true → AreThere s.rows (trade_entries (pend_of t))
trade_stands L s t facts f are both = grind (arith, ints, f.rows (record { account = t.buyer; issue = t.issue }), f.rows (record { account = t.seller; issue = t.issue }), are.buyer, are.seller)

-- and those of a delivery
pub delivery_stands : (L : List Activity) (s : Contents) (m : Movement) (facts : MoveFacts) → Follows L s → AreMoveFacts (journal s.opening L) m facts → (stands facts.member && stands (Some facts.corporation)) ≡ true → AreThere s.rows (moved_in m.member m ∷ moved_out corporation m ∷ [])
delivery_stands L s m facts f are both = grind (arith, ints, f.rows (record { account = m.member; issue = m.issue }), f.rows (record { account = corporation; issue = m.issue }), are.member, are.corporation)

-- what a trade is refused for, over the facts and the trades that wait
pub trade_refusal : (L : List Activity) (opening : Day) (t : Trade) (facts : TradeFacts) (seen : Bool) (ps : List Pend) → AreTradeFacts opening (journal opening L) t facts → seen ≡ is_seen (journal opening L) t.reference → ps ≡ reverse (pending opening (journal opening L))
    → refusal opening (journal opening L) (Command.Activity (Activity.Trade t)) ≡ first_refusal (trade_rules facts ps seen t)
trade_refusal L opening t facts seen ps a e w =
    let J = journal opening L in
    let large : is_member J t.buyer ≡ true → is_member J t.seller ≡ true → eqb t.buyer t.seller ≡ false → is_too_large opening J (Activity.Trade t) ≡ takes_beyond facts ps t = λ m n s. large_if (position J) (pending opening J) (pend_of t) a.members.0 a.members.1 s (is_not_after t.date (date opening J)) ∙ grind (arith, bought-reverse, sold-reverse, a.today, a.buyer, a.seller) in
    grind (arith, a.today, a.buyer, a.seller, a.listed, a.retired)

-- rows that show the same at each key
pub same_rows : (L : List Activity) (s : Contents) (new : Rows) → Follows L s → ((k : Key) → holding_at new k ≡ holding_at s.rows k) → Follows L (record s { rows = new })
same_rows L s new f h = grind (arith, f)

-- an activity that touches no notice leaves them
pub notices_kept : {s : Contents} (L : List Activity) (x : Activity) → is_noticing x ≡ false → Follows L s → FollowsNotices (journal s.opening (x ∷ L)) s
notices_kept {s} L x unnoticed f = notices_stay s (journal s.opening L) x unnoticed f.notices

-- an activity that books its entries, where the references and the notices follow it
pub booked_by : (L : List Activity) (s : Contents) (x : Activity) (trades : Traded) (notices : List Noticed) (rows : Rows) → Follows L s → IsInRange x → refusal s.opening (journal s.opening L) (Command.Activity x) ≡ None → is_close x ≡ false → is_listing x ≡ false → is_some (declared x) ≡ false → is_some (executed x) ≡ false
    → FollowsReferences (journal s.opening (x ∷ L)) (record s { trades = trades })
    → FollowsPending (journal s.opening (x ∷ L)) (record s { trades = trades })
    → FollowsNotices (journal s.opening (x ∷ L)) (record s { notices = notices })
    → ((k : Key) → holding_at rows k ≡ books (entries s.opening (journal s.opening L) x) k (holding_at s.rows k))
    → Follows (x ∷ L) (record s { trades = trades; rows = rows; notices = notices })
booked_by L s x trades notices rows f range none still unlisted undeclared unexecuted r w n b = grind (arith, rows_booked, batches_stay)

answer_now : {X : Type 0} (o : Option Refusal) (b : Bool) (x y : X) → Ok (Some y) ≡ option_map_or Err o (Ok (cond b (Some x) None)) → (o ≡ None) × ((b ≡ true) × (y ≡ x))
answer_now o b x y h1 = grind arith

-- a trade whose entries are answered is not refused, and books now; one that has none is to wait
pub trade_now : (L : List Activity) (s : Contents) (t : Trade) (facts : TradeFacts) (es : List Entry) → Follows L s → AreTradeFacts s.opening (journal s.opening L) t facts → Ok (Some es) ≡ trade_answer facts s.trades.pending (is_used s.trades.references t.reference) t
    → (refusal s.opening (journal s.opening L) (Command.Activity (Activity.Trade t)) ≡ None) × ((is_not_after t.date (date s.opening (journal s.opening L)) ≡ true) × (es ≡ trade_entries (pend_of t)))
trade_now L s t facts es f are answered =
    let told = answer_now (first_refusal (trade_rules facts s.trades.pending (is_used s.trades.references t.reference) t)) _ (trade_entries (pend_of t)) es answered in
    (trade_refusal L s.opening t facts (is_used s.trades.references t.reference) s.trades.pending are (f.references t.reference) f.pending ∙ told.0, (ap (is_not_after t.date) (sym are.today) ∙ told.1.0, told.1.1))

pub trade_later : (L : List Activity) (s : Contents) (t : Trade) (facts : TradeFacts) → Follows L s → AreTradeFacts s.opening (journal s.opening L) t facts → Ok None ≡ trade_answer facts s.trades.pending (is_used s.trades.references t.reference) t
    → (refusal s.opening (journal s.opening L) (Command.Activity (Activity.Trade t)) ≡ None) × (is_not_after t.date (date s.opening (journal s.opening L)) ≡ false)
trade_later L s t facts f are answered = grind (arith, are.today, trade_refusal L s.opening t facts (is_used s.trades.references t.reference) s.trades.pending are (f.references t.reference) f.pending)

-- a trade that books now
pub trade_booked : (L : List Activity) (s : Contents) (t : Trade) (trades : Traded) (rows : Rows) → Follows L s → IsInRange (Activity.Trade t) → refusal s.opening (journal s.opening L) (Command.Activity (Activity.Trade t)) ≡ None
    → is_not_after t.date (date s.opening (journal s.opening L)) ≡ true → ((r : ℕ) → is_used trades.references r ≡ (eqb t.reference r || is_used s.trades.references r)) → trades.pending ≡ s.trades.pending
    → ((k : Key) → holding_at rows k ≡ books (trade_entries (pend_of t)) k (holding_at s.rows k)) → Follows (Activity.Trade t ∷ L) (record s { trades = trades; rows = rows })
trade_booked L s t trades rows f range none now used waits b =
    booked_by L s (Activity.Trade t) trades s.notices rows f range none refl refl refl refl (λ r. grind (arith, used r, f.references r)) (grind (arith, f.pending))
    (notices_kept L (Activity.Trade t) refl f) (λ k. grind (arith, b k))

-- one that is to wait
pub trade_waits : (L : List Activity) (s : Contents) (t : Trade) (trades : Traded) → Follows L s → IsInRange (Activity.Trade t) → refusal s.opening (journal s.opening L) (Command.Activity (Activity.Trade t)) ≡ None
    → is_not_after t.date (date s.opening (journal s.opening L)) ≡ false → ((r : ℕ) → is_used trades.references r ≡ (eqb t.reference r || is_used s.trades.references r)) → trades.pending ≡ s.trades.pending ++ pend_of t ∷ []
    → Follows (Activity.Trade t ∷ L) (record s { trades = trades })
trade_waits L s t trades f range none later used waits =
    booked_by L s (Activity.Trade t) trades s.notices s.rows f range none refl refl refl refl (λ r. grind (arith, used r, f.references r)) (grind (arith, f.pending, reverse_onto (pending s.opening (journal s.opening L)) (pend_of t) [])) (notices_kept L (Activity.Trade t) refl f) (λ k. grind (arith, later, books_none k (holding_at s.rows k)))

-- ---- a receipt

pub receipt_there : (L : List Activity) (s : Contents) (m : Movement) → Follows L s → 1 ≤ m.shares → refusal s.opening (journal s.opening L) (Command.Activity (Activity.Receive m)) ≡ None → AreThere s.rows (moved_out m.member m ∷ moved_in corporation m ∷ [])
receipt_there L s m f least none = grind arith

-- what a delivery is refused for, over the facts
pub delivery_refusal : (L : List Activity) (opening : Day) (m : Movement) (facts : MoveFacts) → AreMoveFacts (journal opening L) m facts → refusal opening (journal opening L) (Command.Activity (Activity.Deliver m)) ≡ first_refusal (delivery_rules facts m)
delivery_refusal L opening m facts a = let member = a.member in let listed = a.listed in let retired = a.retired in grind arith

-- what a receipt is refused for, over the facts
pub receipt_refusal : (L : List Activity) (opening : Day) (m : Movement) (facts : MoveFacts) → AreMoveFacts (journal opening L) m facts → refusal opening (journal opening L) (Command.Activity (Activity.Receive m)) ≡ first_refusal (receipt_rules facts m)
receipt_refusal L opening m facts a = let member = a.member in let corporation = a.corporation in let listed = a.listed in let retired = a.retired in grind arith
