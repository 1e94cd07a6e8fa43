use Rattle.cns_exceptions.proofs.Common.{◌≡◌, ◌-◌, map, reverse, take, with_found}
use Rattle.cns_exceptions.proofs.accepted.note_accepted.Given as goal

abbrev pub invariant-loop-place : goal.invariant-loop-place
invariant-loop-place l = l.findings ≡ map (with_found l.invalid (take (l.place - 1) (reverse l.book.log.history))) l.initial.findings
