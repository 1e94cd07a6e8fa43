use Rattle.cns_program.proofs.Common.{◌∙◌, sym}
use Rattle.cns_feed.proofs.DigitLemmas.{digits-step, digits-stop}
use Rattle.cns_program.proofs.asked.are_digits.Goals as goal

pub returns-then-not-is_ascii_digit : goal.returns-then-not-is_ascii_digit
returns-then-not-is_ascii_digit c = sym (digits-stop c.args.bytes.now c.loop-byte.byte-index c.loop-byte-test.true c.loop-byte.invariant (sym c.is_ascii_digit.ensures.value ∙ c.if-not-is_ascii_digit.true))

pub loop-byte-preserved : goal.loop-byte-preserved
loop-byte-preserved c = digits-step c.args.bytes.now c.loop-byte.byte-index c.loop-byte-test.true c.loop-byte.invariant (sym c.is_ascii_digit.ensures.value ∙ c.if-not-is_ascii_digit.false)
