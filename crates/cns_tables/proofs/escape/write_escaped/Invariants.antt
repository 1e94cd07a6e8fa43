use Rattle.cns_tables.proofs.Common.{◌≡◌, ◌++◌, take, escaped}
use Rattle.cns_tables.proofs.escape.write_escaped.Given as goal

abbrev pub invariant-loop-byte : goal.invariant-loop-byte
invariant-loop-byte l = l.out.items ≡ l.fn.out.items ++ escaped (take l.byte-index l.text)
