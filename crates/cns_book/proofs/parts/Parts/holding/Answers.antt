use Rattle.cns_book.proofs.Common.{◌≤◌, sym, subst, unsigned_abs, HasRoom, Holding, position_limit}
use Rattle.cns_book.proofs.PartsWithin.{member_within}
use Rattle.cns_book.proofs.parts.Parts.holding.Goals as goal

pub returns-clause-member : goal.returns-clause-member
returns-clause-member g c room m =
    subst (λ (h : Holding). unsigned_abs h.now ≤ position_limit) (sym c.get.ensures) (member_within _ c.args.key.account c.args.key.issue m (subst HasRoom (sym c.self.view_is) room))
