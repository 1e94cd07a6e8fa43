use Rattle.cns_book.proofs.Common.{◌∙◌, sym, ap, subst, refl, None, Ok, List, Contains, AreSmallEntries, Entry, Follows, HasRoom, books, first_refusal, is_not_after, pend_of, trade_entries, trade_rules, places_of, booking, is_used, Activity, Command, Reply, refusal, journal, date, has_row, Key, ◌≡◌, true, false, arith}
use Rattle.cns_book.proofs.PartsStaying.{accepted, refused, stopped}
use Rattle.cns_book.proofs.TradingSteps.{answer_err, same_rows, trade_later, trade_now, trade_booked, trade_refusal, trade_stands, trade_waits}
use Rattle.cns_book.proofs.PartsWithin.{rows_within}
use Rattle.cns_book.proofs.parts.Parts.book_trade.Given as given
use Rattle.cns_book.proofs.parts.Parts.book_trade.Goals.{After-prepare, In-Ok-None, In-Ok-Some}
use Rattle.cns_book.proofs.parts.Parts.book_trade.Goals as goal

-- a trade that waits is not refused
waits : (g : given.Over) (c : In-Ok-None g) (L : List Activity) → Follows L c.args.self.now → (refusal c.self.inside.opening (journal c.self.inside.opening L) (Command.Activity (Activity.Trade c.args.trade.now)) ≡ None) × (is_not_after c.args.trade.now.date (date c.self.inside.opening (journal c.self.inside.opening L)) ≡ false)
waits g c L f = trade_later L _ c.args.trade.now c.trade_facts-facts.result (subst (Follows L) (sym c.self.view_is) f) (rw (← c.self.view_is) at (c.trade_facts-facts.ensures.facts L f)) (sym (c.in-Ok-None.is ∙ ap Ok c.in-Ok-None.field-0-is) ∙ c.check_trade.ensures.answer)

-- nor one that books now
books_now : (g : given.Over) (c : In-Ok-Some g) (L : List Activity) → Follows L c.args.self.now → (refusal c.self.inside.opening (journal c.self.inside.opening L) (Command.Activity (Activity.Trade c.args.trade.now)) ≡ None) × ((is_not_after c.args.trade.now.date (date c.self.inside.opening (journal c.self.inside.opening L)) ≡ true) × (c.in-Ok-Some.entries ≡ trade_entries (pend_of c.args.trade.now)))
books_now g c L f = trade_now L _ c.args.trade.now c.trade_facts-facts.result c.in-Ok-Some.entries (subst (Follows L) (sym c.self.view_is) f) (rw (← c.self.view_is) at (c.trade_facts-facts.ensures.facts L f)) (sym (c.in-Ok-Some.is ∙ ap Ok c.in-Ok-Some.field-0-is) ∙ c.check_trade.ensures.answer)

pub returns-in-Err-clause-step : goal.returns-in-Err-clause-step
returns-in-Err-clause-step g c L f =
    let s = c.args.self.now in let t = c.args.trade.now in
    refused {s = s} L (Activity.Trade t) c.in-Err.refusal (trade_refusal L s.opening t c.trade_facts-facts.result (is_used s.trades.references t.reference) s.trades.pending (c.trade_facts-facts.ensures.facts L f) (f.references t.reference) f.pending ∙ answer_err (first_refusal (trade_rules c.trade_facts-facts.result s.trades.pending (is_used s.trades.references t.reference) t)) (booking c.trade_facts-facts.result.today (pend_of t)) c.in-Err.refusal (rw (← c.self.view_is) c.in-Err.ensures.answer)) f

pub returns-in_err-pend-in-Ok-None-clause-step : goal.returns-in_err-pend-in-Ok-None-clause-step
returns-in_err-pend-in-Ok-None-clause-step g c L f =
    stopped L (Command.Activity (Activity.Trade c.args.trade.now)) c.from_residual.result c.from_residual.ensures.0 (waits g (goal.at.returns-in_err-pend-in-Ok-None-clause-step g c).In-Ok-None L f).0 (rw c.in_err-pend-in-Ok-None.ensures.err (subst (Follows L) (sym c.self.view_is) f))

pub returns-in-Ok-None-clause-step : goal.returns-in-Ok-None-clause-step
returns-in-Ok-None-clause-step g c L f =
    let none = waits g (goal.at.returns-in-Ok-None-clause-step g c).In-Ok-None L f in
    accepted L (Activity.Trade c.args.trade.now) Reply.Accepted none.0 refl (trade_waits L _ c.args.trade.now c.pend.new.self (subst (Follows L) (sym c.self.view_is) f) c.value.ensures.range none.0 none.1 c.in_ok-pend-in-Ok-None.ensures.references c.in_ok-pend-in-Ok-None.ensures.pending)

pub prepare-requires : goal.prepare-requires
prepare-requires g c both =
    let L = c.requires.activities in let f = c.requires.follows in
    rw ((books_now g (goal.at.prepare-requires g c).In-Ok-Some L f).1.1) (trade_stands L _ c.args.trade.now c.trade_facts-facts.result (subst (Follows L) (sym c.self.view_is) f) (rw (← c.self.view_is) at (c.trade_facts-facts.ensures.facts L f)) (grind arith))

pub returns-in_err-prepare-clause-step : goal.returns-in_err-prepare-clause-step
returns-in_err-prepare-clause-step g c L f =
    stopped L (Command.Activity (Activity.Trade c.args.trade.now)) c.from_residual-in_err-prepare.result c.from_residual-in_err-prepare.ensures.0 (books_now g (goal.at.returns-in_err-prepare-clause-step g c).In-Ok-Some L f).0 (same_rows L _ _ (subst (Follows L) (sym c.self.view_is) f) c.in_err-prepare.ensures.same)

pub returns-in_err-note_reference-clause-step : goal.returns-in_err-note_reference-clause-step
returns-in_err-note_reference-clause-step g c L f =
    stopped L (Command.Activity (Activity.Trade c.args.trade.now)) c.from_residual-in_err-note_reference.result c.from_residual-in_err-note_reference.ensures.0 (books_now g (goal.at.returns-in_err-note_reference-clause-step g c).In-Ok-Some L f).0 (rw c.in_err-note_reference.ensures.err (same_rows L _ _ (subst (Follows L) (sym c.self.view_is) f) c.in_ok-prepare.ensures.same))

pub book-requires-clause-rows : goal.book-requires-clause-rows
book-requires-clause-rows g c = grind (arith, rows_within _ (subst HasRoom (sym c.self.view_is) c.requires), c.in_ok-prepare.ensures.same)

pub returns-clause-step : goal.returns-clause-step
returns-clause-step g c L f =
    let now = books_now g (goal.at.returns-clause-step g c).In-Ok-Some L f in
    let small = subst AreSmallEntries now.1.1 (c.in-Ok-Some.ensures.small c.in-Ok-Some.entries c.in-Ok-Some.field-0-is) in
    accepted L (Activity.Trade c.args.trade.now) Reply.Accepted now.0 refl
    (trade_booked L _ c.args.trade.now c.note_reference.new.self (g.P.Positions.rows c.book.new.positions) (subst (Follows L) (sym c.self.view_is) f) small.1.0.cents now.0 now.1.0 c.in_ok-note_reference.ensures.ok c.note_reference.ensures.pending
    (λ k. c.book.ensures.booked k ∙ (λ i. books (now.1.1 i) k (c.in_ok-prepare.ensures.same k i))))

-- only where the trade books may a key get a row
others : (g : given.Over) (c : After-prepare g) → c.in-Ok-Some.entries ≡ trade_entries (pend_of c.args.trade.now) → (k : Key) → ¬ Contains (places_of (trade_entries (pend_of c.args.trade.now))) k → has_row (g.P.Positions.rows c.prepare.new.positions) k ≡ has_row c.args.self.now.rows k
others g c told k apart = rw (← c.self.view_is) (c.prepare.ensures.others k (λ h. apart (subst (λ (es : List Entry). Contains (places_of es) k) told h)))

pub returns-in_err-prepare-clause-places : goal.returns-in_err-prepare-clause-places
returns-in_err-prepare-clause-places g c = others g (goal.at.returns-in_err-prepare-clause-places g c).After-prepare (books_now g (goal.at.returns-in_err-prepare-clause-places g c).In-Ok-Some c.requires.activities c.requires.follows).1.1

pub returns-in_err-note_reference-clause-places : goal.returns-in_err-note_reference-clause-places
returns-in_err-note_reference-clause-places g c = others g (goal.at.returns-in_err-note_reference-clause-places g c).After-prepare (books_now g (goal.at.returns-in_err-note_reference-clause-places g c).In-Ok-Some c.requires.activities c.requires.follows).1.1

pub returns-clause-places : goal.returns-clause-places
returns-clause-places g c k apart = c.book.ensures.places k ∙ others g (goal.at.returns-clause-places g c).After-prepare (books_now g (goal.at.returns-clause-places g c).In-Ok-Some c.requires.activities c.requires.follows).1.1 k apart
