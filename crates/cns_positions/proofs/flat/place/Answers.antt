use Rattle.cns_positions.proofs.Common.{rules, arith, key_cmp, keys_total, zeros}
use Rattle.std.proofs.lemmas.Fn.{always_returns_same}
use Rattle.cns_positions.proofs.Puts.{comparisons_rise}
use Rattle.cns_positions.proofs.flat.place.Goals as goal

pub returns : goal.returns
returns c =
    let h = c.binary_search_by.ensures.position (λ e. key_cmp e.0 c.args.key.now) (always_returns_same _ _ _ (λ a r g called. search rules)) in
    grind (arith, comparisons_rise keys_total c.args.rows.now c.args.key.now (c.args.key.now, zeros) c.requires)
