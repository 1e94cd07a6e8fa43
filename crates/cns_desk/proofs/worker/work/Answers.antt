use Rattle.cns_desk.proofs.Common.{arith}
use Rattle.cns_desk.proofs.SoFar.{more}
use Rattle.cns_desk.proofs.worker.work.Goals as goal

pub loop-turn-preserved : goal.loop-turn-preserved
loop-turn-preserved g c = record {
  told = more g.S.Source.may_fail (g.S.Source.told c.args.source) (g.S.Source.told c.loop-turn.source) (g.S.Source.told c.step.new.source) c.loop-turn.log c.step.new.log c.loop-turn._turn c.loop-turn.invariant.told c.in_default.ensures.told;
  count = omega (arith, c.loop-turn.invariant.count, c.step.ensures.seat);
  lines = omega (arith, c.loop-turn.invariant.lines, c.step.ensures.lines);
}

pub returns : goal.returns
returns g c = grind (arith, c.loop-turn.invariant.told, c.loop-turn-test.false)
