use Rattle.cns_positions.proofs.Common.{◌∙◌}
use Rattle.cns_positions.proofs.Entering.{absent_at, at_error, entered_more, other_key}
use Rattle.cns_positions.proofs.tree.enter_all.Goals as goal

pub loop-key-preserved : goal.loop-key-preserved
loop-key-preserved g c = entered_more c.args.rows.now c.loop-key.rows c.enter.new.rows c.args.keys.now c.loop-key.key-index c.key-item.result c.loop-key-test.true c.key-item.is c.loop-key.invariant c.enter.ensures.sorted c.in_ok-enter.ensures.there c.enter.ensures.kept c.enter.ensures.others c.enter.ensures.same

pub returns-in_err-enter-clause-memory : goal.returns-in_err-enter-clause-memory
returns-in_err-enter-clause-memory g c = at_error c.from_residual.result (absent_at c.args.rows.now c.loop-key.rows c.args.keys.now c.loop-key.key-index c.key-item.result c.loop-key-test.true c.key-item.is c.loop-key.invariant.kept c.in_err-enter.ensures.memory)

pub returns-in_err-enter-clause-others : goal.returns-in_err-enter-clause-others
returns-in_err-enter-clause-others g c = λ k apart. c.enter.ensures.others k (other_key c.args.keys.now c.loop-key.key-index c.key-item.result c.loop-key-test.true c.key-item.is k apart) ∙ c.loop-key.invariant.others k apart
