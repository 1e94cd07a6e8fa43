use Rattle.cns_exceptions.proofs.Common.{ap, arith, refl, ◌≡◌, ◌∙◌, counts_below}
use Rattle.cns_exceptions.proofs.Gathered.{none_more, one_more}
use Rattle.cns_exceptions.proofs.counts.counts_of.Goals as goal

pub loop-number-init : goal.loop-number-init
unfolding counts_below
loop-number-init c = grind (arith)

pub loop-number-preserved-then-count-eq0 : goal.loop-number-preserved-then-count-eq0
loop-number-preserved-then-count-eq0 c = grind (arith, none_more)

pub loop-number-preserved : goal.loop-number-preserved
loop-number-preserved c =
    rw c.in_ok-push.ensures.items
    (one_more c.loop-number.number c.args.reasons.now c.loop-number.counts.items _ c.count_of-count.result c.count_of-count.ensures c.if-count-eq0.false refl c.loop-number.invariant)

pub returns : goal.returns
returns c = let last : c.loop-number.number ≡ 21 = omega (arith, c.loop-number-test.false) in c.loop-number.invariant ∙ ap (λ n. counts_below n c.args.reasons.now) last
