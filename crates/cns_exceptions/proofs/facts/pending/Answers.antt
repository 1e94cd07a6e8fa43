use Rattle.cns_exceptions.proofs.Common.{◌∙◌, ap, refl, sym}
use Rattle.std.specs.List.{find}
use Rattle.cns_exceptions.specs.Common.{same_issue}
use Rattle.cns_terms.specs.declared.pend.Pend.{Pend}
use Rattle.cns_exceptions.proofs.facts.pending.Goals as goal

pub returns : goal.returns
returns c xs =
    let is = λ (p : Pend). same_issue p.issue c.in_ok-issue.field-0 in
    (refl, c.in_ok-issue.field-0, ap (find is) (sym (c.list-trades.ensures ∙ c.pending.ensures)) ∙ sym c.first_in.ensures ∙ c.in_ok-first_in.was)
