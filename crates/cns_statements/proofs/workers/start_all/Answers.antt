use Rattle.cns_statements.proofs.Common.{rules, ◌∷◌, [], append-nil, append_assoc, arith, drop_more, nil_from_length}
use Rattle.cns_statements.proofs.workers.start_all.Goals as goal

pub starting-preserved : goal.starting-preserved
starting-preserved g c = record {
  all = λ hs rest. grind (arith, append_assoc, drop_more c.starting.parts.items 0 c.remove-part.result, c.starting.invariant.all (c.in_ok-handle.handle ∷ hs), c.remove-part.ensures.by_index.2);
  number = search rules;
}

pub returns-clause-all : goal.returns-clause-all
returns-clause-all g c = rw append-nil at (c.starting.invariant.all [] (rw (nil_from_length c.starting.parts.items (search rules)) tt))
