use Rattle.cns_book.proofs.Common.{reverse}
use Rattle.cns_book.proofs.BookTaking.{few_accepted}
use Rattle.cns_book.proofs.book.Book.history_len.Goals as goal

pub returns-clause-few : goal.returns-clause-few
returns-clause-few g c = rw (← c.self.view_is) (few_accepted c.self.inside.limit (reverse c.self.inside.history.taken) c.self.inside.counts c.self.inside.parts c.self.invariant)
