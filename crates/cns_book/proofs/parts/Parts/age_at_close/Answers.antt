use Rattle.cns_book.proofs.Common.{arith}
use Rattle.cns_book.proofs.RetransmittalShorts.{ages_fit}
use Rattle.cns_book.proofs.parts.Parts.age_at_close.Goals as goal

pub overflow_add-result : goal.overflow_add-result
overflow_add-result g c = omega (arith, ages_fit c.args.self.now c.requires c.args.key c.holding.result c.holding.ensures.value, c.oldest.ensures)
