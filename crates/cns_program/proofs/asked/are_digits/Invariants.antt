use Rattle.cns_program.proofs.Common.{◌≡◌, drop}
use Rattle.cns_terms.proofs.Common.{all_ascii_digits}
use Rattle.cns_program.proofs.asked.are_digits.Given as goal

abbrev pub invariant-loop-byte : goal.invariant-loop-byte
invariant-loop-byte l = all_ascii_digits (drop l.byte-index l.bytes) ≡ all_ascii_digits l.bytes
