use Rattle.cns_tables.proofs.Common.{◌≡◌, ◌++◌, drop, grouped}
use Rattle.cns_tables.proofs.grouped.write_digits.Given as goal

abbrev pub invariant-loop-place : goal.invariant-loop-place
invariant-loop-place l = l.fn.out.items ++ grouped l.digits ≡ l.out.items ++ grouped (drop l.place l.digits)
