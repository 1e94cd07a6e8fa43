use Rattle.std.proofs.Common.{◌≡◌, length}
use Rattle.std.specs.Io.KnownBytes.{Consumes}
use Rattle.cns_exceptions.proofs.input.read_block.Given as goal

abbrev pub invariant-loop : goal.invariant-loop
invariant-loop g l =
    (length l.buf ≡ 8192) × Consumes (g.I.Read.remaining l.initial.reader) (g.I.Read.remaining l.reader) l.block.items
