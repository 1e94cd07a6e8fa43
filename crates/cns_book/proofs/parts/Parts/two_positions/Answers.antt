use Rattle.cns_book.proofs.Common.{◌≤◌, ◌∙◌, sym, ap, subst, unsigned_abs, Contents, HasRoom, Holding, holding_at, position_limit}
use Rattle.std.proofs.lemmas.Int.{to_z-of_z}
use Rattle.std.specs.Int.{w64}
use Rattle.cns_book.proofs.PartsWithin.{member_within}
use Rattle.cns_book.proofs.parts.Parts.two_positions.Goals as goal

pub returns : goal.returns
returns g c =
    let first = to_z-of_z w64 c.shares_of.result (record { sfits = c.shares_of.type_inv }) ∙ c.shares_of.ensures ∙ ap (λ (h : Holding). h.now) c.get_two-first.ensures.first in
    let second = to_z-of_z w64 c.shares_of-2.result (record { sfits = c.shares_of-2.type_inv }) ∙ c.shares_of-2.ensures ∙ ap (λ (h : Holding). h.now) c.get_two-first.ensures.second in
    record {
      first = λ L f. first ∙ ap (λ (s : Contents). (holding_at s.rows (record { account = c.args.first; issue = c.args.issue })).now) c.self.view_is ∙ ap (λ (h : Holding). h.now) (f.rows (record { account = c.args.first; issue = c.args.issue }));
      second = λ L f. second ∙ ap (λ (s : Contents). (holding_at s.rows (record { account = c.args.second; issue = c.args.issue })).now) c.self.view_is ∙ ap (λ (h : Holding). h.now) (f.rows (record { account = c.args.second; issue = c.args.issue }));
      first_member = λ room m. subst (λ q. unsigned_abs q ≤ position_limit) (sym first) (member_within _ c.args.first c.args.issue m (subst HasRoom (sym c.self.view_is) room));
      second_member = λ room m. subst (λ q. unsigned_abs q ≤ position_limit) (sym second) (member_within _ c.args.second c.args.issue m (subst HasRoom (sym c.self.view_is) room));
    }
