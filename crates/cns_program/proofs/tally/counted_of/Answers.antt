use Rattle.cns_program.proofs.Common.{◌≡◌, ◌+◌, ◌<◌, ◌≤◌, length, rules}
use Rattle.cns_program.proofs.Tallied.{counts_more, lines_more}
use Rattle.cns_program.proofs.tally.counted_of.Goals as goal

pub loop-place-preserved : goal.loop-place-preserved
loop-place-preserved c =
    let inside : c.loop-place.place < length c.args.logs.now = search rules in
    let worker : c.in-Ok.worker ≡ c.loop-place.place + 1 = search rules in
    let lines : c.from-lines.result ≡ c.index-logs-place.result.lines = search rules in
    let fits : c.from-lines.result ≤ 4294967295 = search rules in
    let counts = counts_more c.args.book.now.log c.loop-place.place c.in-Ok.worker c.loop-place.counts.items c.from.result worker c.loop-place.invariant.counts (search rules) in
    record { end = c.loop-place.invariant.end; counts = rw c.in-Ok-push.ensures.items counts; lines = lines_more _ _ _ _ c.index-logs-place.result inside c.index-logs-place.is c.loop-place.invariant.lines lines; small = search rules }
