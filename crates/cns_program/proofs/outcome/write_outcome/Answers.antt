use Rattle.cns_program.proofs.outcome.write_outcome.Goals as goal

pub returns-clause-told : goal.returns-clause-told
returns-clause-told g c is = (c.tell_outcome.result.told, c.tell_outcome.ensures.told is)
