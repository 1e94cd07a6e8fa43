use Rattle.cns_exceptions.proofs.Common.{refl, sym, ◌∙◌, ap, arith, ℕ, ◌+◌, List, Some}
use Rattle.cns_exceptions.proofs.DaysLemmas.{gone_all, gone_none, gone_on, gone_over, gone_to}
use Rattle.cns_exceptions.proofs.days.days_of.Goals as goal

pub loop-number-init : goal.loop-number-init
loop-number-init c = record {
  ready = c.new-records.ensures.ready;
  few = omega arith;
  gone = gone_none (λ (i : List ℕ). Some i) _ _ _ _ c.new-closes.ensures.items c.new-records.ensures.pending;
}

pub returns-in_default : goal.returns-in_default
returns-in_default c =
    gone_all (λ (i : List ℕ). Some i) c.loop-number.records _ _ _ _ _ _ _ _ (rw c.in_default.is at c.in_ok-next.ensures) refl c.from-records.ensures c.loop-number.invariant.gone

pub loop-number-preserved-in_default-next : goal.loop-number-preserved-in_default-next
loop-number-preserved-in_default-next c =
    let inv = c.loop-number.invariant in
    let few = inv.few in
    let one = rw (c.in-Some.is, c.in_default-next.is) at c.in_ok-next.ensures in
    record { ready = one.0; few = omega (arith, few); gone = gone_on (λ (i : List ℕ). Some i) c.loop-number.records c.read_day.new.records _ _ _ _ _ _ one inv.gone }

pub loop-number-preserved : goal.loop-number-preserved
loop-number-preserved c =
    let inv = c.loop-number.invariant in
    let few = inv.few in
    let one = rw (c.in-Some.is, c.in-Some-next.is) at c.in_ok-next.ensures in
    record {
      ready = one.0;
      few = omega (arith, few);
      gone = gone_over (λ (i : List ℕ). Some i) c.loop-number.records c.read_day.new.records _ _ _ _ _ _ _ _ _ one c.in_ok-push.ensures (grind arith) inv.gone;
    }

pub returns-then-is_last : goal.returns-then-is_last
returns-then-is_last c =
    let one = rw (c.in-Some.is, c.in-Some-next.is) at c.in_ok-next.ensures in
    let gone = gone_over (λ (i : List ℕ). Some i) c.loop-number.records c.read_day.new.records _ _ _ _ _ _ _ _ _ one c.in_ok-push.ensures (grind arith) c.loop-number.invariant.gone in
    gone_to (λ (i : List ℕ). Some i) c.read_day.new.records _ _ _ _ _ _ _ _ (c.loop-number.closes.items, _, c.in_ok-push.ensures, sym c.is_last.ensures ∙ c.if-is_last.true) refl (ap (λ n. n + 1) c.from-read.ensures) gone
