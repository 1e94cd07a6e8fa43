use Rattle.cns_feed.proofs.Common.{◌≡◌, ◌^◌, ◌-◌, min, take, drop, all_ascii_digits, digits_value}
use Rattle.cns_feed.proofs.digits.capped.Given as goal

abbrev pub invariant-loop-byte : goal.invariant-loop-byte
invariant-loop-byte l = (all_ascii_digits (drop l.byte-index l.bytes) ≡ all_ascii_digits l.bytes) × (l.value ≡ min (digits_value 10 (take l.byte-index l.bytes)) (2 ^ 64 - 1))
