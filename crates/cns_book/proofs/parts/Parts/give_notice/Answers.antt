use Rattle.cns_book.proofs.Common.{sym, subst, arith, length-append, HasRoom, journal, notices, refusal, length-map}
use Rattle.cns_book.proofs.ClosingSteps.{closes_fit}
use Rattle.cns_book.proofs.PartsStaying.{accepted}
use Rattle.cns_book.proofs.NoticeSteps.{notice_given}
use Rattle.cns_book.proofs.parts.Parts.give_notice.Goals as goal

pub overflow_add-self-inside : goal.overflow_add-self-inside
overflow_add-self-inside g c = omega (arith, closes_fit _ (subst HasRoom (sym c.self.view_is) c.requires))

pub returns-clause-step : goal.returns-clause-step
returns-clause-step g c L f = grind (arith, refusal, journal, notices, length-map, length-append, accepted, notice_given)
