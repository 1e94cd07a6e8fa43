use Rattle.cns_book.proofs.Common.{reverse, IfOk-weaker}
use Rattle.cns_terms.proofs.LegalReplies.{legal_replies}
use Rattle.cns_book.proofs.BookTaking.{few_accepted}
use Rattle.cns_book.proofs.book.Book.copy_history.Goals as goal

pub returns-clause-replies : goal.returns-clause-replies
returns-clause-replies g c = IfOk-weaker c.copied.result _ _ (λ v _. rw (← c.self.view_is) (legal_replies c.self.inside.parts.opening (reverse c.self.inside.history.taken) c.self.invariant.legal)) c.copied.ensures

pub returns-clause-few : goal.returns-clause-few
returns-clause-few g c = rw (← c.self.view_is) (few_accepted c.self.inside.limit (reverse c.self.inside.history.taken) c.self.inside.counts c.self.inside.parts c.self.invariant)
