use Rattle.cns_desk.proofs.Common.{◌≡◌, ◌+◌, ◌++◌, List, vec_len, promised, HaveRun}
use Rattle.cns_desk.proofs.threads.join_all.Given as goal

-- the workers that were joined have run, and with the rest they are all
abbrev pub invariant-joining : goal.invariant-joining
invariant-joining g l = record {
  seats : vec_len l.seats + vec_len l.handles ≡ vec_len l.fn.handles;
  ran : (done : List g.row.S.Denot) × (done ++ promised l.handles.items ≡ promised l.fn.handles.items) × HaveRun g.S.Source.may_fail g.S.Source.told done l.logs.items l.ends.items;
}

abbrev pub decreases-joining : goal.decreases-joining
decreases-joining g l = vec_len l.handles
