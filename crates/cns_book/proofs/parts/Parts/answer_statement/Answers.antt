use Rattle.cns_book.proofs.Common.{arith}
use Rattle.cns_book.proofs.parts.Parts.answer_statement.Goals as goal

pub returns-in-Some : goal.returns-in-Some
returns-in-Some g c = λ L f. grind (arith, c.is_account.ensures L f, c.sheet.ensures.value L f) steps 200000
