use Rattle.cns_positions.proofs.tree.TreePositions.add_counted.Goals as goal

pub returns-clause-count : goal.returns-clause-count
returns-clause-count g c = rw (← c.self.view_is) c.book.ensures.count
