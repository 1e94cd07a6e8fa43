use Rattle.cns_statements.proofs.Common.{◌≡◌, ◌+◌, ◌++◌, vec_len, AllAre}
use Rattle.cns_statements.proofs.workers.start_all.Given as goal

-- threads for the parts that are left would do, beside those so far
abbrev pub invariant-starting : goal.invariant-starting
invariant-starting g l = record {
  all : (hs : _) → AllAre l.sheet l.parts.items hs → AllAre l.sheet l.fn.parts.items (l.handles.items ++ hs);
  number : l.number + vec_len l.parts ≡ vec_len l.fn.parts;
}

abbrev pub decreases-starting : goal.decreases-starting
decreases-starting g l = vec_len l.parts
