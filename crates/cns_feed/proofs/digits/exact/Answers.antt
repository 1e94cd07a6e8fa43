use Rattle.cns_feed.proofs.Common.{arith}
use Rattle.cns_feed.proofs.DigitLemmas.{digits-step, exact-step, small_yet, ten_times}
use Rattle.cns_feed.proofs.digits.exact.Goals as goal

pub overflow_mul-value : goal.overflow_mul-value
overflow_mul-value c = grind (arith, small_yet c.loop-byte.byte-index)

pub overflow_add-value : goal.overflow_add-value
overflow_add-value c = grind (arith, small_yet c.loop-byte.byte-index)

pub loop-byte-preserved : goal.loop-byte-preserved
loop-byte-preserved c = grind (arith, digits-step, exact-step, ten_times)
