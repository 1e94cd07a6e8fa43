use Rattle.std.proofs.lemmas.Result.{IfOk-weaker}
use Rattle.cns_page.proofs.make.closed_page.Goals as goal

pub returns : goal.returns
returns c = IfOk-weaker c.page_of_day.result _ _ (λ text h. (_, c.in_ok-day.ensures, h)) c.page_of_day.ensures
