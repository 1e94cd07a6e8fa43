use Rattle.cns_history.proofs.Common.{arith, sym, ◌∙◌}
use Rattle.cns_history.proofs.Passed.{entry_next}
use Rattle.cns_history.proofs.entries.EntriesIterator.next.Goals as goal

pub returns-clause-steps : goal.returns-clause-steps
returns-clause-steps c = sym c.self.view_is ∙ entry_next c.self.inside.book.now.log.history c.self.inside.passed c.in_ok-entry.entry (omega (arith, c.if-self.false)) (sym c.entry.ensures ∙ c.in_ok-entry.was)

pub returns-clause-goes : goal.returns-clause-goes
returns-clause-goes c = let h = sym c.self.view_is ∙ entry_next c.self.inside.book.now.log.history c.self.inside.passed c.in_ok-entry.entry (omega (arith, c.if-self.false)) (sym c.entry.ensures ∙ c.in_ok-entry.was) in grind (arith, h)
