use Rattle.cns_statements.proofs.Common.{◌≡◌, ◌++◌, [], vec_len, flat_map}
use Rattle.cns_statements.proofs.packing.parts_of.Given as goal

abbrev pub invariant-loop-taken : goal.invariant-loop-taken
invariant-loop-taken l = record {
  count : vec_len l.parts ≡ l.taken;
  whole : flat_map (λ p. p.items) l.parts.items ++ l.rest ≡ l.fn.accounts;
  all : l.taken ≡ l.fn.workers → l.rest ≡ [];
}
