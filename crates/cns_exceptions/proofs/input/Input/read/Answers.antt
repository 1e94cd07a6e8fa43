use Rattle.std.proofs.Common.{arith}
use Rattle.std.proofs.KnownBytes.{Consumes-trans}
use Rattle.cns_exceptions.proofs.Blocks.{all_read}
use Rattle.cns_exceptions.proofs.input.Input.read.Goals as goal

pub returns-then-is_empty : goal.returns-then-is_empty
returns-then-is_empty g c = all_read _ _ _ _ _ c.loop.invariant c.in_ok-block.ensures.bytes (grind arith) c.in_ok-block.ensures.end

pub loop-preserved : goal.loop-preserved
loop-preserved g c = rw c.in_ok-keep.ensures (Consumes-trans _ _ _ _ _ c.loop.invariant c.in_ok-block.ensures.bytes)
