use Rattle.cns_book.proofs.Common.{◌≡◌, ◌∙◌, None, sym, subst, arith, Contents, Follows, HasRoom, Key, age_brought, books, entries, holding_at, journal, refusal, with_age, makes, Activity, Command, Action}
use Rattle.cns_book.proofs.ActionSteps.{can_be_booked, elsewhere, exchange_follows, exchange_unrefused, exchange_current}
use Rattle.cns_book.proofs.PartsStaying.{stopped}
use Rattle.cns_book.proofs.TradingSteps.{same_rows}
use Rattle.cns_book.proofs.parts.Parts.exchange.Goals as goal

pub make-requires : goal.make-requires
make-requires g c = can_be_booked _ (subst HasRoom (sym c.self.view_is) c.requires)

pub retire-requires : goal.retire-requires
retire-requires g c = let both = rw (← c.self.view_is) at (exchange_current c.requires.activities c.args.self.now c.args.exchange.now c.exchange_refusal.result c.requires.follows (c.exchange_refusal.ensures c.requires.activities c.requires.follows) c.in_default.is) in record { listed = both.0; current = both.1 }

pub returns-in_err-make-in-Ok-clause-step : goal.returns-in_err-make-in-Ok-clause-step
returns-in_err-make-in-Ok-clause-step g c L f =
    let none = subst (λ (t : Contents). refusal t.opening (journal t.opening L) (Command.Activity (Activity.Exchange c.args.exchange.now)) ≡ None) (sym c.self.view_is) (exchange_unrefused L c.args.self.now c.args.exchange.now c.exchange_refusal.result (c.exchange_refusal.ensures L f) c.in_default.is (λ b. let z = (c.in-Ok.ensures.too_large L f).1 b in cc) (λ b. let z = (c.in-Ok.ensures.pending L f).1 b in cc)) in
    stopped L (Command.Activity (Activity.Exchange c.args.exchange.now)) c.from_residual.result c.from_residual.ensures.0 none (same_rows L _ _ (subst (Follows L) (sym c.self.view_is) f) c.in_err-make-in-Ok.ensures.err)

pub returns-in_ok-make-in-Ok-clause-step : goal.returns-in_ok-make-in-Ok-clause-step
returns-in_ok-make-in-Ok-clause-step g c L f =
    let none = subst (λ (t : Contents). refusal t.opening (journal t.opening L) (Command.Activity (Activity.Exchange c.args.exchange.now)) ≡ None) (sym c.self.view_is) (exchange_unrefused L c.args.self.now c.args.exchange.now c.exchange_refusal.result (c.exchange_refusal.ensures L f) c.in_default.is (λ b. let z = (c.in-Ok.ensures.too_large L f).1 b in cc) (λ b. let z = (c.in-Ok.ensures.pending L f).1 b in cc)) in
    let made = subst (λ (t : Contents). (k : Key) → makes c.in-Ok.bookings k (holding_at t.rows k) ≡ with_age (age_brought t.rows (Action.Exchange c.args.exchange.now) k) (books (entries t.opening (journal t.opening L) (Activity.Exchange c.args.exchange.now)) k (holding_at t.rows k))) (sym c.self.view_is) (c.in-Ok.ensures.booked L f) in
    rw c.end_issue.ensures (exchange_follows L _ c.args.exchange.now c.retire.new.self (g.P.Positions.rows c.make.new.positions) (subst (Follows L) (sym c.self.view_is) f) (c.parts.ensures.old_range, c.value.ensures.range, c.value-2.ensures.range) none c.retire.ensures.price c.retire.ensures.retired (λ k. c.in_ok-make-in-Ok.ensures.ok k ∙ made k))

pub returns-in_err-make-in-Ok-clause-places : goal.returns-in_err-make-in-Ok-clause-places
returns-in_err-make-in-Ok-clause-places g c = grind (arith, elsewhere)

pub returns-in_ok-make-in-Ok-clause-places : goal.returns-in_ok-make-in-Ok-clause-places
returns-in_ok-make-in-Ok-clause-places g c = grind (arith, elsewhere)
