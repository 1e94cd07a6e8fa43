use Rattle.cns_positions.proofs.Stepping.{next_fits, step_more}
use Rattle.cns_positions.proofs.steps.run.Goals as goal

pub take_step-requires : goal.take_step-requires
take_step-requires g c = next_fits _ c.args.steps.now c.loop-step.step-index c.step-item.result c.loop-step-test.true c.step-item.is c.loop-step.invariant.fits

pub loop-step-preserved : goal.loop-step-preserved
loop-step-preserved g c =
    let inv = c.loop-step.invariant in
    let more = step_more _ c.args.steps.now c.loop-step.step-index c.step-item.result c.loop-step-test.true c.step-item.is _ _ _ c.in_ok-take_step.ensures.map inv.done inv.fits in
    record { done = rw c.in_ok-take_step.ensures.reply more.0; fits = more.1 }
