use Rattle.cns_program.proofs.entry.perform.Goals as goal

pub returns-in-Run-clause-done : goal.returns-in-Run-clause-done
returns-in-Run-clause-done g c is = rw c.in-Run.is (rw (← c.as_slice.ensures.len) (c.tell_run.ensures.done is))

pub returns-in-Run-clause-told : goal.returns-in-Run-clause-told
returns-in-Run-clause-told g c is = rw c.in-Run.is (rw (← c.as_slice.ensures.len) (c.tell_run.ensures.told is))
