use Rattle.cns_retransmit.proofs.Common.{arith}
use Rattle.cns_terms.proofs.Laid.{fills_laid}
use Rattle.cns_retransmit.proofs.FillSteps.{fill_last, fill_more}
use Rattle.cns_retransmit.proofs.filling.make_fills.Goals as goal

pub loop-liable-preserved : goal.loop-liable-preserved
loop-liable-preserved g c = grind (arith, fill_more c.loop-liable.invariant c.liable-item.result c.min-more.result c.loop-liable-test.true c.liable-item.is (grind arith) c.if-more-gt0.fills.items c.if-more-gt0.given c.if-more-gt0.paid)

pub returns : goal.returns
returns g c = grind (arith, fills_laid, fill_last)

pub returns-then-given-shares : goal.returns-then-given-shares
returns-then-given-shares g c = grind (arith, fills_laid, fill_last)
