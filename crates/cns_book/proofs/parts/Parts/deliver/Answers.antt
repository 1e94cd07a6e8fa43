use Rattle.cns_book.proofs.Common.{◌∙◌, sym, subst, refl, [], ◌∷◌, arith, Contains, Entry, List, places_of, Follows, HasRoom, books, corporation, delivery_rules, first_refusal, moved_in, moved_out, Activity, Reply}
use Rattle.cns_book.proofs.PartsStaying.{accepted, refused, stopped}
use Rattle.cns_book.proofs.TradingSteps.{delivery_refusal, answer_err, answer_ok, booked_by, delivery_stands, notices_kept, same_rows}
use Rattle.cns_book.proofs.PartsWithin.{rows_within}
use Rattle.cns_book.proofs.parts.Parts.deliver.Goals as goal

pub returns-in-Err-clause-step : goal.returns-in-Err-clause-step
returns-in-Err-clause-step g c L f =
    let m = c.args.movement.now in
    let none = delivery_refusal L c.args.self.now.opening m c.move_facts-facts.result (c.move_facts-facts.ensures.facts L f) ∙ answer_err (first_refusal (delivery_rules c.move_facts-facts.result m)) (moved_in m.member m ∷ moved_out corporation m ∷ []) c.in-Err.refusal c.in-Err.ensures.answer in
    refused L (Activity.Deliver m) c.in-Err.refusal none f

pub prepare-requires : goal.prepare-requires
prepare-requires g c both =
    let L = c.requires.activities in let f = c.requires.follows in let m = c.args.movement.now in
    let told = answer_ok (first_refusal (delivery_rules c.move_facts-facts.result m)) (moved_in m.member m ∷ moved_out corporation m ∷ []) c.in-Ok.entries c.in-Ok.ensures.answer in
    rw (told.1) (delivery_stands L _ m c.move_facts-facts.result (subst (Follows L) (sym c.self.view_is) f) (rw (← c.self.view_is) at (c.move_facts-facts.ensures.facts L f)) (grind arith))

pub returns-in_err-prepare-clause-step : goal.returns-in_err-prepare-clause-step
returns-in_err-prepare-clause-step g c L f = grind (arith, same_rows, delivery_refusal, answer_ok, stopped, c.move_facts-facts.ensures.facts L f)

pub book-requires-clause-rows : goal.book-requires-clause-rows
book-requires-clause-rows g c = grind (arith, rows_within _ (subst HasRoom (sym c.self.view_is) c.requires), c.in_ok-prepare.ensures.same)

pub returns-clause-step : goal.returns-clause-step
returns-clause-step g c L f =
    let f' = subst (Follows L) (sym c.self.view_is) f in let m = c.args.movement.now in
    let done = answer_ok (first_refusal (delivery_rules c.move_facts-facts.result m)) (moved_in m.member m ∷ moved_out corporation m ∷ []) c.in-Ok.entries c.in-Ok.ensures.answer in
    let none = delivery_refusal L c.self.inside.opening m c.move_facts-facts.result (rw (← c.self.view_is) at (c.move_facts-facts.ensures.facts L f)) ∙ done.0 in
    accepted L (Activity.Deliver m) Reply.Accepted none refl
    (booked_by L _ (Activity.Deliver m) c.self.inside.trades c.self.inside.notices (g.P.Positions.rows c.book.new.positions) f' tt none refl refl refl refl f'.references f'.pending (notices_kept L (Activity.Deliver m) refl f')
    (λ k. c.book.ensures.booked k ∙ (λ i. books (done.1 i) k (c.in_ok-prepare.ensures.same k i))))

pub returns-clause-places : goal.returns-clause-places
returns-clause-places g c k apart =
    let m = c.args.movement.now in
    let told = answer_ok (first_refusal (delivery_rules c.move_facts-facts.result m)) (moved_in m.member m ∷ moved_out corporation m ∷ []) c.in-Ok.entries c.in-Ok.ensures.answer in
    c.book.ensures.places k ∙ rw (← c.self.view_is) (c.prepare.ensures.others k (λ h. apart (subst (λ (es : List Entry). Contains (places_of es) k) told.1 h)))

pub returns-in_err-prepare-clause-places : goal.returns-in_err-prepare-clause-places
returns-in_err-prepare-clause-places g c k apart =
    let m = c.args.movement.now in
    let told = answer_ok (first_refusal (delivery_rules c.move_facts-facts.result m)) (moved_in m.member m ∷ moved_out corporation m ∷ []) c.in-Ok.entries c.in-Ok.ensures.answer in
    rw (← c.self.view_is) (c.prepare.ensures.others k (λ h. apart (subst (λ (es : List Entry). Contains (places_of es) k) told.1 h)))
