use Rattle.cns_book.proofs.Common.{◌≡◌, ◌∙◌, sym, subst, Contents, Follows, HasRoom, IsAccepted, fills_by, journal}
use Rattle.cns_book.proofs.ExecutionSteps.{accepted_steps}
use Rattle.cns_book.proofs.PartsWithin.{counts_fit}
use Rattle.cns_book.proofs.parts.Parts.execute.Goals as goal

pub executed-requires-clause-fits : goal.executed-requires-clause-fits
executed-requires-clause-fits g c =
    λ x is. (counts_fit _ (subst HasRoom (sym c.self.view_is) c.requires) c.args.execution.now.shares c.in-Ok.ensures.accepted.range.1 c.args.execution.now.notice x is).1

pub returns-clause-step : goal.returns-clause-step
returns-clause-step g c L f =
    let x = c.args.execution.now in let y = c.in-Ok.checked.0 in let fs = c.as_slice.result.now in
    let accepted = subst (λ (s : Contents). IsAccepted s x y) (sym c.self.view_is) c.in-Ok.ensures.accepted in
    let fills = subst (λ (s : Contents). c.in_ok-fills.fills.items ≡ fills_by (journal s.opening L) x) (sym c.self.view_is) (c.in_ok-fills.ensures.fills L f) in
    accepted_steps L _ x y fs c.len.result (g.P.Positions.rows c.book_fills.new.positions) c.executed.new.self c.charge.new.self c.from.result c.as_slice-2.result.now
    (subst (Follows L) (sym c.self.view_is) f) accepted (c.as_slice.ensures.value ∙ fills) (c.len.ensures ∙ sym c.as_slice.ensures.len) c.book_fills.ensures.booked c.executed.ensures
    c.charge.ensures c.from.ensures (c.as_slice-2.ensures.value ∙ sym c.as_slice.ensures.value)
