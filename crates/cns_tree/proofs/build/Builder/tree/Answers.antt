use Rattle.cns_tree.proofs.Common.{arith, length-append}
use Rattle.std.proofs.lemmas.List.{length-map, nil_from_length}
use Rattle.cns_tree.proofs.build.Builder.tree.Goals as goal

pub returns : goal.returns
returns g c = grind (arith, length-map, length-append, nil_from_length c.take_last-root.new.self)
