use Rattle.cns_program.proofs.Common.{rules, arith, ◌++◌, ◌∷◌, [], length-append}
use Rattle.cns_program.proofs.Opened.{read_more}
use Rattle.cns_program.proofs.running.open_files.Goals as goal

pub loop-place-preserved : goal.loop-place-preserved
loop-place-preserved g c =
    let read = c.loop-place.invariant.read in
    let more = read_more _ g.F.Read.remaining c.loop-place.sources.items read.0 c.in_ok-source.source c.in-Ok.file read.2 c.in_ok-source.ensures.told in
    record { count = search (rules, c.loop-place.invariant.count, c.in-Ok-push.ensures.len); read = (read.0 ++ c.in-Ok.file ∷ [], omega (arith, length-append read.0 (c.in-Ok.file ∷ []), read.1), rw c.in-Ok-push.ensures.items more) }
