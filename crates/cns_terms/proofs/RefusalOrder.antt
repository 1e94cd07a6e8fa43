-- The rules of each command stand in the order of the refusals' numbers.
use Rattle.cns_terms.proofs.Facts.{RefusalOrder, arith}

-- each command by itself
pub refusal_order : RefusalOrder
refusal_order = grind arith
