use Rattle.cns_program.proofs.Common.{inl, inr}
use Rattle.cns_program.proofs.running.tell_run.Goals as goal

pub returns-in-Ok-clause-done : goal.returns-in-Ok-clause-done
returns-in-Ok-clause-done g c is = let done = c.tell_outcome.ensures.done is in (c.in-Ok.outcome, c.in-Ok.ensures.ok, done.0, done.1)

pub returns-in-Ok-clause-told : goal.returns-in-Ok-clause-told
returns-in-Ok-clause-told g c is = elim (c.tell_outcome.ensures.told is) [
  | inl early ↦ inr (c.in-Ok.outcome, c.in-Ok.ensures.ok, early)
  | inr h ↦ inl (h.0, inr (c.in-Ok.outcome, c.in-Ok.ensures.ok, h.1), h.2)
]
