use Rattle.cns_book.proofs.Common.{◌∙◌, ◌≡◌, ◌+◌, sym, ap, subst, inl, inr, Some, arith, nat_tests, option_map, Contents, HasRoom, Noticed, kept_at}
use Rattle.cns_book.proofs.RetransmittalCalls.{call_fits, called_next, none_earlier}
use Rattle.cns_book.proofs.ClosingSteps.{closes_fit}
use Rattle.cns_book.proofs.parts.Parts.calls_of_day.Goals.{else-loop-number-test, then-loop-number-test+then-given-today, then-shares-gt0+in_ok-call, else-shares-gt0}
use Rattle.cns_book.proofs.parts.Parts.calls_of_day.Goals as goal

pub overflow_add-today : goal.overflow_add-today
overflow_add-today g c = omega (arith, closes_fit _ (subst HasRoom (sym c.self.view_is) c.requires))

pub call-requires : goal.call-requires
call-requires g c = grind (arith, call_fits c.args.self.now c.requires)

pub loop-number-preserved : goal.loop-number-preserved
loop-number-preserved g c =
    let given = subst (λ (t : Contents). Some c.given-given.result ≡ option_map (λ (x : Noticed). x.given) (kept_at t.notices c.loop-number.number)) c.self.view_is c.given-given.ensures in
    let today = c.if-given-today.false ∙ ap (λ (t : Contents). t.closes + 1) c.self.view_is in
    record {
      below = omega (arith, c.loop-number.invariant.below);
      called = called_next c.args.self.now c.loop-number.number c.given-given.result c.remaining-shares.result c.loop-number.calls c.if-shares-gt0.calls (omega (arith, c.loop-number-test.true)) c.loop-number.invariant.below given c.remaining-shares.ensures today (elim c.if-shares-gt0.branch [
        | then-shares-gt0+in_ok-call w ↦ inr (omega (arith, w.if-shares-gt0.true), rw w.calls-is w.in_ok-call.ensures.ok)
        | else-shares-gt0 w ↦ inl (omega (arith, w.if-shares-gt0.false), w.calls-is)
      ]) c.loop-number.invariant.called;
    }

pub returns-clause-total : goal.returns-clause-total
returns-clause-total g c d =
    omega (
      arith,
      c.loop-number.invariant.called.totals d,
      none_earlier c.args.self.now c.requires c.loop-number.number d c.loop-number.invariant.below (elim c.loop-number-test.branch [
        | else-loop-number-test w ↦ λ some. absurd (omega (arith, w.loop-number-test.false))
        | then-loop-number-test+then-given-today w ↦ λ some x at. grind (arith, nat_tests, w.given-given.ensures, w.if-given-today.true)
      ]),
    )
