use Rattle.cns_sheets.proofs.Common.{rules, arith, nat_cmp, comparisons_rise, nat_list_cmp_total, slice_cmp}
use Rattle.std.proofs.lemmas.Fn.{always_returns_same}
use Rattle.cns_sheets.proofs.prices.place.Goals as goal

pub returns : goal.returns
returns c =
    let h = c.binary_search_by.ensures.position (λ e. slice_cmp nat_cmp e.0 c.args.issue.now) (always_returns_same _ _ _ (λ a r g called. search rules)) in
    grind (arith, comparisons_rise nat_list_cmp_total c.args.prices.now c.args.issue.now (c.args.issue.now, 0) c.requires)
