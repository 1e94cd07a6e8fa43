use Rattle.cns_feed.proofs.Common.{◌≡◌, ◌^◌, ◌<◌, take, drop, all_ascii_digits, digits_value}
use Rattle.cns_feed.proofs.digits.exact.Given as goal

abbrev pub invariant-loop-byte : goal.invariant-loop-byte
invariant-loop-byte l =
    (all_ascii_digits (drop l.byte-index l.bytes) ≡ all_ascii_digits l.bytes) × (l.value ≡ digits_value 10 (take l.byte-index l.bytes)) × (l.value < 10 ^ l.byte-index)
