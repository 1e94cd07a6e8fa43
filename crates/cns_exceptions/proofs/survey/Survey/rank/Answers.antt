use Rattle.cns_exceptions.proofs.Common.{◌≡◌, ◌-◌, ◌++◌, ◌∙◌, ap, arith, length, map, told}
use Rattle.cns_exceptions.proofs.Gathered.{questions_last}
use Rattle.cns_exceptions.proofs.survey.Survey.rank.Goals as goal

pub returns : goal.returns
returns c =
    let s = c.args.self.now in
    let room : c.saturating_sub.result ≡ 200 - length s.findings.items = grind arith in
    let first = ap (map told) (c.in_ok-append.ensures.items ∙ ap (λ q. s.findings.items ++ q) c.truncate.ensures.items) ∙ questions_last s.findings.items s.questions.items c.saturating_sub.result room in
    λ i. record {
      from = s.from;
      records = s.records;
      exceptions = s.exceptions;
      reasons = s.reasons.items;
      first = first i;
      questions = map told (c.in_ok-append.ensures.other_items i);
      invalid = s.invalid.items;
      days = s.past.days.items;
      exchanges = s.past.exchanges.items;
      dividends = s.past.dividends.items;
    }
