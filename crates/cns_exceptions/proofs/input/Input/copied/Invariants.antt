use Rattle.std.proofs.Common.{◌≡◌, take}
use Rattle.std.specs.List.{flat_map}
use Rattle.std.specs.Prelude.{vec_items}
use Rattle.std.specs.Rc.{rc_value}
use Rattle.cns_exceptions.proofs.input.Input.copied.Given as goal

abbrev pub invariant-loop-place : goal.invariant-loop-place
invariant-loop-place l =
    flat_map (λ b. vec_items (rc_value b)) l.blocks.items ≡ flat_map (λ b. vec_items (rc_value b)) (take l.place l.self-inside.blocks.items)
