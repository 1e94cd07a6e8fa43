use Rattle.cns_book.proofs.Common.{◌≡◌, ◌∙◌, ◌+◌, refl, sym, ap, subst, length, filter, flat_map, List, arith, slice_get, Contains, Contents, Declared, Follows, HasRoom, IsCut, Key, batches_since, books, day_sheet, has_row, holding_at, ints, journal, last_dated, nat_tests, payments_by, prices_of, rolled, trade_entries, due_entries, places_of, Activity, Reply, due_on}
use Rattle.cns_actions.proofs.Reachable.{can_same}
use Rattle.cns_terms.specs.Dividends.{is_due}
use Rattle.cns_book.proofs.ActionSteps.{can_be_booked}
use Rattle.cns_book.proofs.TradingSteps.{same_rows}
use Rattle.cns_book.proofs.ClosingSteps.{due_stay, closes_fit, day_closed, not_late, opened_rows}
use Rattle.cns_book.proofs.PartsStaying.{accepted, stopped}
use Rattle.cns_book.proofs.RetransmittalSteps.{liable_counted, liable_few}
use Rattle.cns_book.proofs.ClosingSheet.{sheet_is}
use Rattle.cns_book.proofs.parts.Parts.close_day.Goals.{After-enter}
use Rattle.cns_book.proofs.parts.Parts.close_day.Given as given
use Rattle.cns_book.proofs.parts.Parts.close_day.Goals as goal

pub overflow_add-closed : goal.overflow_add-closed
overflow_add-closed g c = omega (arith, closes_fit _ (subst HasRoom (sym c.self.view_is) c.requires))

pub overflow_add-self : goal.overflow_add-self
overflow_add-self g c = omega (arith, closes_fit _ (subst HasRoom (sym c.self.view_is) c.requires))

pub choose_batches-requires-clause-cut : goal.choose_batches-requires-clause-cut
choose_batches-requires-clause-cut g c L f =
    let f' = subst (Follows L) (sym c.self.view_is) f in
    let same : c.due-due.result ≡ filter (is_due (last_dated c.self.inside.closed) c.self.inside.today) c.self.inside.dividends = c.due-due.ensures.due ∙ ap (λ o. filter (is_due o c.self.inside.today) c.self.inside.dividends) c.last_date.ensures in
    let cut = subst (λ (ds : List Declared). IsCut (prices_of (slice_get c.self.inside.closed 0)) c.self.inside.prices (g.P.Positions.rows c.self.inside.positions) (payments_by c.self.inside.closed ds) c.in_ok-sheet.sheet.rows) same c.in_ok-sheet.ensures.cut in
    subst (λ (t : Contents). c.in_ok-sheet.sheet ≡ day_sheet t.opening (journal t.opening L)) c.self.view_is (sheet_is L _ c.in_ok-sheet.sheet f' c.in_ok-sheet.ensures.prices c.in_ok-sheet.ensures.date c.in_ok-sheet.ensures.listed cut)

pub returns-in_err-enter-clause-step : goal.returns-in_err-enter-clause-step
returns-in_err-enter-clause-step g c L f =
    let f' = subst (Follows L) (sym c.self.view_is) f in let same = same_rows L _ _ f' c.enter.ensures.same in
    grind (arith, not_late, stopped)

pub open-requires-clause-within : goal.open-requires-clause-within
open-requires-clause-within g c = can_same (g.P.Positions.rows c.self.inside.positions) _ (can_be_booked _ (subst HasRoom (sym c.self.view_is) c.requires)) c.enter.ensures.same

pub count_liable-requires : goal.count_liable-requires
count_liable-requires g c = grind (arith, nat_tests, ints, liable_few, liable_counted)

pub returns-in_err-keep-clause-step : goal.returns-in_err-keep-clause-step
returns-in_err-keep-clause-step g c L f =
    let f' = subst (Follows L) (sym c.self.view_is) f in let same = same_rows L _ _ f' c.enter.ensures.same in
    grind (arith, not_late, stopped)

pub returns-in-Err-clause-step : goal.returns-in-Err-clause-step
returns-in-Err-clause-step g c L f =
    let f' = subst (Follows L) (sym c.self.view_is) f in let same = same_rows L _ _ f' c.enter.ensures.same in
    let last = c.forget_last.ensures.last c.self.inside.batches c.in_ok-batches.batches.items c.in_ok-keep.ensures.ok in
    grind (arith, not_late)

pub returns-clause-step : goal.returns-clause-step
returns-clause-step g c L f =
    let f' = subst (Follows L) (sym c.self.view_is) f in let room = subst HasRoom (sym c.self.view_is) c.requires in
    let o = c.self.inside.opening in let J = journal o L in
    let none = not_late L _ c.args.next f' (sym c.le.ensures ∙ c.if-le.false) in
    let same : c.due-due.result ≡ filter (is_due (last_dated c.self.inside.closed) c.self.inside.today) c.self.inside.dividends = c.due-due.ensures.due ∙ ap (λ o. filter (is_due o c.self.inside.today) c.self.inside.dividends) c.last_date.ensures in
    let cut = subst (λ (ds : List Declared). IsCut (prices_of (slice_get c.self.inside.closed 0)) c.self.inside.prices (g.P.Positions.rows c.self.inside.positions) (payments_by c.self.inside.closed ds) c.in_ok-sheet.sheet.rows) same c.in_ok-sheet.ensures.cut in
    let is : c.in_ok-sheet.sheet ≡ day_sheet o J = sheet_is L _ c.in_ok-sheet.sheet f' c.in_ok-sheet.ensures.prices c.in_ok-sheet.ensures.date c.in_ok-sheet.ensures.listed cut in
    let count = c.len.ensures ∙ ap (λ s. length s.rows) is in
    let chosen = subst (λ (t : Contents). c.in_ok-batches.batches.items ≡ batches_since (journal t.opening L) (journal t.opening L)) (sym c.self.view_is) (c.in_ok-batches.ensures.batches L f) in
    let liable = c.count_liable.ensures ∙ liable_counted o L c.as_slice.result.now f'.reached (c.as_slice.ensures.value ∙ chosen) in
    let made = rw (← c.self.view_is) at c.in_ok-opening.ensures.booked in
    let due = filter (due_on c.args.next) c.self.inside.trades.pending in
    let rows : (k : Key) → holding_at (g.P.Positions.rows c.open.new.positions) k ≡ books (flat_map trade_entries due) k (rolled (holding_at (g.P.Positions.rows c.self.inside.positions) k)) = λ k.
    opened_rows c.in_ok-opening.opening due (g.P.Positions.rows c.enter.new.positions) (g.P.Positions.rows c.open.new.positions) made c.open.ensures.rolled c.open.ensures.booked k
    ∙ ap (λ h. books (flat_map trade_entries due) k (rolled h)) (c.enter.ensures.same k) in
    accepted L (Activity.Close c.args.next) (Reply.Closed (record { day = c.self.inside.closes + 1; date = c.self.inside.today; rows = c.len.result; liable = c.count_liable.result }))
    none
    (λ i. Reply.Closed (record { day = f'.clock.closes i + 1; date = f'.clock.today i; rows = count i; liable = liable i }))
    (rw (c.in_default.ensures.ok, c.in_ok-keep.ensures.ok, c.expire.ensures) (day_closed L _ c.args.next c.settle.new.self (g.P.Positions.rows c.open.new.positions) c.in_ok-sheet.sheet c.in_ok-batches.batches.items f' (closes_fit _ room) none c.settle.ensures.references c.settle.ensures.pending rows is chosen))

-- where nothing that is due is booked there is a row where there was one
stay : (g : given.Over) (c : After-enter g) (k : Key) → ¬ Contains (places_of (due_entries c.args.next c.args.self.now.trades.pending)) k → has_row (g.P.Positions.rows c.enter.new.positions) k ≡ has_row c.args.self.now.rows k
stay g c k out =
    due_stay c.in_ok-opening.opening (due_entries c.args.next c.args.self.now.trades.pending) (g.P.Positions.rows c.self.inside.positions) (g.P.Positions.rows c.enter.new.positions) c.in_ok-opening.ensures.others c.enter.ensures.others k out
    ∙ ap (λ (t : Contents). has_row t.rows k) c.self.view_is

pub returns-in_err-enter-clause-places : goal.returns-in_err-enter-clause-places
returns-in_err-enter-clause-places g c = stay g (goal.at.returns-in_err-enter-clause-places g c).After-enter

pub returns-in_err-keep-clause-places : goal.returns-in_err-keep-clause-places
returns-in_err-keep-clause-places g c = stay g (goal.at.returns-in_err-keep-clause-places g c).After-enter

pub returns-in-Err-clause-places : goal.returns-in-Err-clause-places
returns-in-Err-clause-places g c = stay g (goal.at.returns-in-Err-clause-places g c).After-enter

pub returns-clause-places : goal.returns-clause-places
returns-clause-places g c k out = c.open.ensures.places k ∙ stay g (goal.at.returns-clause-places g c).After-enter k out

pub same-self-in_err-batches : goal.same-self-in_err-batches
same-self-in_err-batches g c = refl

pub same-self-in_err-opening : goal.same-self-in_err-opening
same-self-in_err-opening g c = refl
