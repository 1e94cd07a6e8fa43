use Rattle.cns_tree.proofs.Common.{◌∙◌, sym}
use Rattle.std.proofs.lemmas.List.{take_all, take_more}
use Rattle.cns_tree.proofs.tree.Tree.from_sorted.Goals as goal

pub returns-clause-rows : goal.returns-clause-rows
returns-clause-rows g c = c.tree.ensures ∙ c.loop-key.invariant ∙ take_all _ _ c.loop-key-test.false

pub loop-key-preserved : goal.loop-key-preserved
loop-key-preserved g c =
    let more = take_more c.args.rows.now c.loop-key.key-index c.loop-key-item.result c.loop-key-test.true in
    c.in_ok-push.ensures.pushed ∙ rw (c.loop-key.invariant, c.loop-key-item.is) (sym more)

pub tree-requires : goal.tree-requires
tree-requires g c = rw (c.loop-key.invariant, take_all c.loop-key.key-index c.args.rows.now c.loop-key-test.false) c.requires
