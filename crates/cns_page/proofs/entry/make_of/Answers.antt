use Rattle.cns_page.proofs.MakeLemmas.{made_of}
use Rattle.cns_page.proofs.entry.make_of.Goals as goal

pub returns : goal.returns
returns g c = made_of _ _ _ _ _ _ c.in_ok-records.ensures c.make.ensures.page
