use Rattle.cns_positions.proofs.Common.{◌∙◌, rules, length, ap, sym, Holding, Key, YieldsFirst, YieldsList-from_shown, is_held, find_from_yields_List}
use Rattle.std.proofs.lemmas.Iterator.Adapters.{option_map_id}
use Rattle.cns_positions.proofs.tree.first_held.Goals as goal

pub returns : goal.returns
returns g c =
    let walked = YieldsList-from_shown (YieldsFirst (λ w. w)) (λ x. x) (λ w. w) (λ s t h. ap length h.0) (λ s x t h. h) c.args.walk in
    sym (option_map_id _) ∙ find_from_yields_List (λ (r : Key × Holding). is_held r.1) _ _ _ c.find.ensures.ran walked (λ x b q k. search rules)
