use Rattle.cns_desk.proofs.Common.{rules, ◌≡◌, ◌<◌, ◌++◌, ◌∷◌, [], drop, length}
use Rattle.cns_desk.proofs.Joined.{run_more, sources_same}
use Rattle.cns_desk.proofs.threads.join_all.Goals as goal

pub joining-preserved : goal.joining-preserved
joining-preserved g c =
    let done = c.joining.invariant.ran.0 in
    let h = c.remove-handle.result in
    let some : 0 < length c.joining.handles.items = search rules in
    let rest : c.remove-handle.new.self.items ≡ drop 1 c.joining.handles.items = c.remove-handle.ensures.by_index.2 in
    let ran = run_more g.S.Source.may_fail g.S.Source.told done c.joining.logs.items c.joining.ends.items h.promise.0.value c.join-seat.result.log c.join-seat.result.end c.joining.invariant.ran.2 c.join-seat.ensures in
    record {
      seats = search rules;
      ran = (done ++ h.promise.0.value ∷ [], sources_same done _ c.joining.handles.items c.remove-handle.new.self.items h c.joining.invariant.ran.1 some c.remove-handle.ensures.value rest, rw (c.in_ok-push-2.ensures.items, c.in_ok-push-3.ensures.items) ran);
    }
