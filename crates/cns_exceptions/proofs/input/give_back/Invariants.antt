use Rattle.std.proofs.Common.{◌≡◌, drop, length}
use Rattle.std.specs.List.{flat_map}
use Rattle.std.specs.Prelude.{vec_items}
use Rattle.std.specs.Rc.{rc_value}
use Rattle.cns_exceptions.proofs.input.give_back.Given as goal

abbrev pub invariant-loop-block : goal.invariant-loop-block
invariant-loop-block l =
    drop l.place (flat_map (λ b. vec_items (rc_value b)) l.blocks.items) ≡ drop l.read (flat_map (λ b. vec_items (rc_value b)) l.initial.blocks.items)

abbrev pub decreases-loop-block : goal.decreases-loop-block
decreases-loop-block l = length l.blocks.items
