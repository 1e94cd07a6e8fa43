use Rattle.std.specs.Io.KnownBytes.{Consumes}
use Rattle.std.specs.List.{flat_map}
use Rattle.std.specs.Prelude.{vec_items}
use Rattle.std.specs.Rc.{rc_value}
use Rattle.cns_exceptions.proofs.input.Input.read.Given as goal

abbrev pub invariant-loop : goal.invariant-loop
invariant-loop g l = Consumes (g.I.Read.remaining l.initial.reader) (g.I.Read.remaining l.reader) (flat_map (λ b. vec_items (rc_value b)) l.blocks.items)
