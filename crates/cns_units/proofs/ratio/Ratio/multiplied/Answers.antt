use Rattle.std.specs.Prelude.{◌^◌}
use Rattle.cns_units.proofs.Common.{arith, ints}
use Rattle.std.proofs.lemmas.Int.{unsigned_abs-mul}
use Rattle.std.proofs.lemmas.Nat.{mul-le}
use Rattle.cns_units.proofs.ratio.Ratio.multiplied.Goals as goal

pub returns-clause-small : goal.returns-clause-small
returns-clause-small c = grind (arith, ints, unsigned_abs-mul, mul-le _ _ (10 ^ 10) (10 ^ 4) c.requires c.self.invariant.1)
