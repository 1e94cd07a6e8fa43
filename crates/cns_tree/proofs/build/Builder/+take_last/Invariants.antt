use Rattle.cns_tree.proofs.build.Builder.+take_last.Given as goal

abbrev pub decreases-take_last : goal.decreases-take_last
decreases-take_last g l = l.count
