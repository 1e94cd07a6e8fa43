use Rattle.cns_positions.proofs.Common.{rules, with_age}
use Rattle.cns_positions.proofs.Changes.{changed_at}
use Rattle.cns_positions.proofs.Holdings.{aged_put}
use Rattle.cns_positions.proofs.tree.carry.Goals as goal

pub returns-clause-carried : goal.returns-clause-carried
returns-clause-carried g c k = rw (changed_at (with_age c.args.age) c.args.rows.now c.change.new.self c.args.key.now c.requires (λ v w p. search rules) c.change.ensures.rows) (aged_put _ _ _ k)
