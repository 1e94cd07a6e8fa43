use Rattle.cns_desk.proofs.Common.{append_assoc, arith}
use Rattle.std.proofs.lemmas.List.{append-nil, map-append, nil_from_length}
use Rattle.cns_desk.proofs.threads.start_all.Goals as goal

pub starting-preserved : goal.starting-preserved
starting-preserved g c = grind (arith, append_assoc, map-append)

pub returns-clause-promised : goal.returns-clause-promised
returns-clause-promised g c = grind (arith, append-nil, nil_from_length c.starting.sources.items)
