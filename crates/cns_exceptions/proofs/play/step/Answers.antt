use Rattle.cns_exceptions.proofs.Common.{ap, ◌∙◌, state_of, known}
use Rattle.cns_exceptions.proofs.PlayLemmas.{noted_records}
use Rattle.cns_exceptions.proofs.play.step.Goals as goal

pub returns : goal.returns
returns g c =
    let one = rw c.in-Some.is at c.in_ok-line.ensures in (
      one.1,
      ap (λ k. k.records) c.in_ok-take.ensures.known ∙ noted_records (known c.args.survey.now) (state_of c.args.book.now.log) c.in-Some.line,
      λ all left.
          let (rest, first, after) = one.0 all left in
          record { line = c.in-Some.line; rest = rest; first = first; left = after; log = c.in_ok-take.ensures.after; knows = c.in_ok-take.ensures.known; told = c.in_ok-take.ensures.lines },
    )
