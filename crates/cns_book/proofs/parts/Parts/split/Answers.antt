use Rattle.cns_book.proofs.Common.{◌≡◌, ◌∙◌, None, sym, subst, refl, arith, Contents, Follows, HasRoom, Key, books, entries, holding_at, journal, refusal, makes, Activity, Command, Reply}
use Rattle.cns_book.proofs.ActionSteps.{can_be_booked, split_ends, split_unrefused, with_no_age}
use Rattle.cns_book.proofs.PartsStaying.{accepted, stopped}
use Rattle.cns_book.proofs.TradingSteps.{booked_by, same_rows}
use Rattle.cns_book.proofs.parts.Parts.split.Goals as goal

pub make-requires : goal.make-requires
make-requires g c = can_be_booked _ (subst HasRoom (sym c.self.view_is) c.requires)

pub returns-in_err-make-in-Ok-clause-step : goal.returns-in_err-make-in-Ok-clause-step
returns-in_err-make-in-Ok-clause-step g c L f =
    let f' = subst (Follows L) (sym c.self.view_is) f in let said = c.issue_refusal.ensures L f in
    let size = c.in-Ok.ensures.too_large L f in let same = same_rows L _ _ f' c.in_err-make-in-Ok.ensures.err in grind (arith, split_unrefused, stopped)

pub returns-in_ok-make-in-Ok-clause-step : goal.returns-in_ok-make-in-Ok-clause-step
returns-in_ok-make-in-Ok-clause-step g c L f =
    let f' = subst (Follows L) (sym c.self.view_is) f in let s = c.args.split.now in let x = Activity.Split s in
    let none = subst (λ (t : Contents). refusal t.opening (journal t.opening L) (Command.Activity x) ≡ None) (sym c.self.view_is) (split_unrefused L c.args.self.now s c.issue_refusal.result (c.issue_refusal.ensures L f) c.in_default.is (λ b. let z = (c.in-Ok.ensures.too_large L f).1 b in cc)) in
    let made = subst (λ (t : Contents). (k : Key) → makes c.in-Ok.bookings k (holding_at t.rows k) ≡ books (entries t.opening (journal t.opening L) x) k (holding_at t.rows k)) (sym c.self.view_is) (λ k. c.in-Ok.ensures.booked L f k ∙ with_no_age _) in
    accepted L x Reply.Accepted none refl
    (booked_by L _ x c.self.inside.trades c.end_issue.new.self (g.P.Positions.rows c.make.new.positions) f' (c.parts.ensures.old_range, c.value.ensures.range) none refl refl refl refl f'.references f'.pending (c.end_issue.ensures ∙ split_ends L s f') (λ k. c.in_ok-make-in-Ok.ensures.ok k ∙ made k))
