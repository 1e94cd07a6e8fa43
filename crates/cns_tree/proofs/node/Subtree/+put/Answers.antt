use Rattle.cns_tree.proofs.Common.{ap, sym, ◌∙◌, arith, rules, key_cmp, keys_total, ◌≡◌, ◌<◌, ◌⊎◌, true, is_some, find}
use Rattle.cns_tree.proofs.Rows.{puts_left, puts_middle, puts_right, sides_shorter}
use Rattle.cns_tree.proofs.node.Subtree.+put.Goals as goal

pub put-left-requires : goal.put-left-requires
put-left-requires g t c κs within =
    let shorter = sides_shorter _ _ _ _ c.in-Some.ensures.rows_are in
    let enough : (is_some (find key_cmp c.args.key c.in-Some.field-0.left.0) ≡ true) ⊎ (0 < c.args.spare.now) = grind (arith, puts_left key_cmp keys_total c.args.key c.args.value c.args.self.0 _ _ _ (grind arith) c.in-Some.ensures.rows_are c.in-Some.ensures.rises) in
    search rules

pub join_left-requires-clause-rises : goal.join_left-requires-clause-rises
join_left-requires-clause-rises g t c = grind (arith, puts_left key_cmp keys_total c.args.key c.args.value)

pub returns-in-Less-clause-rows : goal.returns-in-Less-clause-rows
returns-in-Less-clause-rows g t c = grind (arith, puts_left key_cmp keys_total c.args.key c.args.value)

pub returns-in-Less-clause-spare : goal.returns-in-Less-clause-spare
returns-in-Less-clause-spare g t c = grind (arith, puts_left key_cmp keys_total c.args.key c.args.value)

pub join_right-requires-clause-rises : goal.join_right-requires-clause-rises
join_right-requires-clause-rises g t c = grind (arith, puts_right key_cmp keys_total c.args.key c.args.value)

pub returns-in-Greater-clause-rows : goal.returns-in-Greater-clause-rows
returns-in-Greater-clause-rows g t c = grind (arith, puts_right key_cmp keys_total c.args.key c.args.value)

pub returns-in-Greater-clause-spare : goal.returns-in-Greater-clause-spare
returns-in-Greater-clause-spare g t c = grind (arith, puts_right key_cmp keys_total c.args.key c.args.value)

pub put-right-requires : goal.put-right-requires
put-right-requires g t c κs within =
    let shorter = sides_shorter _ _ _ _ c.in-Some.ensures.rows_are in
    let enough : (is_some (find key_cmp c.args.key c.in-Some.field-0.right.0) ≡ true) ⊎ (0 < c.args.spare.now) = grind (arith, puts_right key_cmp keys_total c.args.key c.args.value c.args.self.0 _ _ _ (grind arith) c.in-Some.ensures.rows_are c.in-Some.ensures.rises) in
    search rules

pub join-requires-clause-rises : goal.join-requires-clause-rises
join-requires-clause-rises g t c = rw c.deref_mut.ensures.value (puts_middle key_cmp keys_total c.args.key c.args.value c.args.self.0 _ _ _ (grind arith) c.in-Some.ensures.rows_are c.in-Some.ensures.rises).rises

pub returns-in-Equal-clause-rows : goal.returns-in-Equal-clause-rows
returns-in-Equal-clause-rows g t c = ap (λ d. d.0) c.join.ensures ∙ rw c.deref_mut.ensures.value (sym (puts_middle key_cmp keys_total c.args.key c.args.value c.args.self.0 _ _ _ (grind arith) c.in-Some.ensures.rows_are c.in-Some.ensures.rises).is)

pub returns-in-Equal-clause-spare : goal.returns-in-Equal-clause-spare
returns-in-Equal-clause-spare g t c = grind (arith, puts_middle key_cmp keys_total c.args.key c.args.value c.args.self.0 _ _ _ (grind arith) c.in-Some.ensures.rows_are c.in-Some.ensures.rises)
