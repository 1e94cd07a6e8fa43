use Rattle.std.proofs.Common.{rules, ◌∙◌}
use Rattle.std.proofs.lemmas.Iterator.{YieldsList-from_slice}
use Rattle.std.proofs.lemmas.Iterator.Search.{find_from_yields_List}
use Rattle.cns_exceptions.specs.Common.{same_issue}
use Rattle.cns_terms.specs.declared.pend.Pend.{Pend}
use Rattle.cns_exceptions.proofs.facts.first_in.Goals as goal

pub returns : goal.returns
returns c = c.copied.ensures ∙ find_from_yields_List (λ (p : Pend). same_issue p.issue c.args.issue.now) _ _ _ c.find.ensures.ran (YieldsList-from_slice c.args.trades.now cc) (λ x b q k. search rules)
