use Rattle.cns_exceptions.proofs.Common.{sym}
use Rattle.cns_exceptions.proofs.Gathered.{findings_looked_for}
use Rattle.cns_exceptions.proofs.survey.Survey.look_back.Goals as goal

pub returns : goal.returns
returns c =
    findings_looked_for c.args.self.now c.args.book.now.log.history c.note_accepted.new.findings (sym c.args.self.now.findings.ok.0)
    (rw (c.as_slice.ensures.value, c.as_mut_slice.ensures.value) at c.note_accepted.ensures)
