use Rattle.cns_book.proofs.Common.{◌∙◌, ap, sym, subst, refl, [], ◌∷◌, arith, Follows, HasRoom, books, corporation, first_refusal, holding_at, moved_in, moved_out, receipt_rules, Activity, Reply}
use Rattle.cns_book.proofs.PartsStaying.{accepted, refused}
use Rattle.cns_book.proofs.TradingSteps.{receipt_there, answer_err, answer_ok, booked_by, receipt_refusal}
use Rattle.cns_book.proofs.PartsWithin.{counts_fit, rows_within}
use Rattle.cns_book.proofs.NoticeSteps.{receipt_counted}
use Rattle.cns_book.proofs.parts.Parts.receive.Goals as goal

pub returns-in-Err-clause-step : goal.returns-in-Err-clause-step
returns-in-Err-clause-step g c L f =
    let m = c.args.movement.now in
    let none = receipt_refusal L c.args.self.now.opening m c.move_facts-facts.result (c.move_facts-facts.ensures.facts L f) ∙ answer_err (first_refusal (receipt_rules c.move_facts-facts.result m)) (moved_out m.member m ∷ moved_in corporation m ∷ []) c.in-Err.refusal c.in-Err.ensures.answer in
    refused L (Activity.Receive m) c.in-Err.refusal none f

pub book-requires-clause-there : goal.book-requires-clause-there
book-requires-clause-there g c = grind (arith, answer_ok, receipt_there, receipt_refusal)

pub book-requires-clause-rows : goal.book-requires-clause-rows
book-requires-clause-rows g c = rows_within _ (subst HasRoom (sym c.self.view_is) c.requires)

pub returns-clause-step : goal.returns-clause-step
returns-clause-step g c L f =
    let f' = subst (Follows L) (sym c.self.view_is) f in let m = c.args.movement.now in
    let done = answer_ok (first_refusal (receipt_rules c.move_facts-facts.result m)) (moved_out m.member m ∷ moved_in corporation m ∷ []) c.in-Ok.entries c.in-Ok.ensures.answer in
    let none = receipt_refusal L c.self.inside.opening m c.move_facts-facts.result (rw (← c.self.view_is) at (c.move_facts-facts.ensures.facts L f)) ∙ done.0 in
    accepted L (Activity.Receive m) Reply.Accepted none refl
    (booked_by L _ (Activity.Receive m) c.self.inside.trades c.received.new.self (g.P.Positions.rows c.book.new.positions) f' c.value.ensures.range.1 none refl refl refl refl f'.references f'.pending (c.received.ensures ∙ receipt_counted L m f')
    (λ k. c.book.ensures.booked k ∙ ap (λ es. books es k (holding_at (g.P.Positions.rows c.self.inside.positions) k)) done.1))

pub received-requires : goal.received-requires
received-requires g c = record { fits = λ k is x at. (counts_fit _ (subst HasRoom (sym c.self.view_is) c.requires) c.args.movement.now.shares c.value.ensures.range.1 k x at).0 }
