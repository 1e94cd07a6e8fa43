-- The buffer keeps its length, and a call that was interrupted consumes nothing.
use Rattle.cns_feed.proofs.Common.{◌≡◌, length, Keeps}
use Rattle.cns_feed.proofs.counting.read_some.Given as goal

abbrev pub invariant-loop : goal.invariant-loop
invariant-loop g l = (length l.buf ≡ length l.initial.buf) × Keeps (g.R.Read.remaining l.initial.reader) (g.R.Read.remaining l.reader)
