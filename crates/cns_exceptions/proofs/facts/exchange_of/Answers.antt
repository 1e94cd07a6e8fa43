use Rattle.std.proofs.Common.{rules, ◌∙◌}
use Rattle.std.proofs.lemmas.Iterator.{YieldsList-from_slice}
use Rattle.std.proofs.lemmas.Iterator.Search.{find_from_yields_List}
use Rattle.cns_exceptions.specs.Common.{Exchange, same_issue}
use Rattle.cns_exceptions.proofs.facts.exchange_of.Goals as goal

pub returns : goal.returns
returns c = c.copied.ensures ∙ find_from_yields_List (λ (x : Exchange). same_issue x.old c.args.issue.now) _ _ _ c.find.ensures.ran (YieldsList-from_slice c.args.exchanges.now cc) (λ x b q k. search rules)
