use Rattle.cns_book.proofs.Common.{◌∙◌, IfOk-weaker}
use Rattle.cns_book.proofs.ExecutionSteps.{accepted_fills}
use Rattle.cns_book.proofs.PartsWithin.{rows_within}
use Rattle.cns_book.proofs.parts.Parts.make_fills.Goals as goal

pub returns-clause-fills : goal.returns-clause-fills
returns-clause-fills g c =
    IfOk-weaker c.fill.result _ _ (λ v is L f. is ∙ accepted_fills L c.args.self.now c.args.execution.now c.args.given.now c.args.batch.now f (rows_within c.args.self.now c.requires.room).shares c.requires.accepted c.requires.batch) c.fill.ensures.fills
