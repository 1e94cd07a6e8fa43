use Rattle.cns_book.proofs.Common.{each_append, ◌∙◌, ap, [], ◌∷◌, ◌++◌, length-append, map, arith, taken_in}
use Rattle.cns_book.proofs.BookTaking.{taken_more}
use Rattle.cns_book.proofs.history.History.push.Goals as goal

pub invariant_of-self : goal.invariant_of-self
invariant_of-self g c = grind (arith, each_append, length-append)

pub returns : goal.returns
returns g c =
    rw (c.in-Ok.ensures.items, ← c.self.view_is) (
    taken_more c.self.inside.replies.items c.add_reply-place.new.replies.items c.self.inside.entries.items _ c.add_reply-place.ensures.stays c.self.invariant.0
    ∙ ap (λ r. map (taken_in c.self.inside.replies.items) c.self.inside.entries.items ++ record { worker = c.args.taken.now.worker; seq = c.args.taken.now.seq; command = c.args.taken.now.command; reply = r } ∷ []) c.add_reply-place.ensures.is
    )
