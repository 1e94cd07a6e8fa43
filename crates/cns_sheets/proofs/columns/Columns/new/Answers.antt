use Rattle.cns_sheets.proofs.Common.{arith, ints, refl}
use Rattle.cns_sheets.proofs.Gained.{gained}
use Rattle.cns_sheets.proofs.LowestCusip.{from_lowest}
use Rattle.cns_sheets.proofs.columns.Columns.new.Goals as goal

pub returns-clause-marked : goal.returns-clause-marked
returns-clause-marked c = record {
  rule = refl;
  gained = gained _ _ _ _ _ (grind (arith, ints)) (grind (arith, ints)) c.value-2.ensures.range c.value-3.ensures.range;
  issue = from_lowest _ c.bytes.ensures.valid;
  account = c.value.ensures.range;
}
