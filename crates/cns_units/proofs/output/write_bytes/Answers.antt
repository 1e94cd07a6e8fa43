use Rattle.cns_units.proofs.Common.{arith}
use Rattle.cns_units.proofs.OutputLemmas.{took_failed, took_more, took_none}
use Rattle.cns_units.proofs.output.write_bytes.Goals as goal

pub returns-in-Ok-eq0 : goal.returns-in-Ok-eq0
returns-in-Ok-eq0 g c = grind (arith, took_none)

pub loop-at-preserved : goal.loop-at-preserved
loop-at-preserved g c = grind (arith, took_more)

pub returns-in-Err : goal.returns-in-Err
returns-in-Err g c = grind (arith, took_failed)
