use Rattle.cns_feed.proofs.Common.{None, Some, arith, refl, lines_left}
use Rattle.cns_feed.proofs.SourceLemmas.{item_line, left_pending, where_known}
use Rattle.cns_feed.proofs.source.read_item.Goals as goal

pub returns-in-Ok-Some-Ok : goal.returns-in-Ok-Some-Ok
returns-in-Ok-Some-Ok g c =
    let one = rw c.in-Ok-Some-Ok.field-0-is at c.in-Ok-Some-Ok.ensures in
    item_line g.R.Read.remaining c.args.records.now c.read_line.new.self c.args.left _ (Some c.in-Ok-Some-Ok.command) (omega (arith, c.if-left-eq0.false)) (rw c.in-Ok-Some-Ok.field-0-0-is refl) one.0 one.1

pub returns-in-Ok-Some-Err : goal.returns-in-Ok-Some-Err
returns-in-Ok-Some-Err g c =
    let one = rw c.in-Ok-Some-Err.field-0-is at c.in-Ok-Some-Err.ensures in
    item_line g.R.Read.remaining c.args.records.now c.read_line.new.self c.args.left _ None (omega (arith, c.if-left-eq0.false)) (rw c.in-Ok-Some-Err.field-0-0-is refl) one.0 one.1

pub returns-in-Ok-None : goal.returns-in-Ok-None
returns-in-Ok-None g c =
    let none = rw c.in-Ok-None.field-0-is at c.in-Ok-None.ensures in (
      omega (arith, c.if-left-eq0.false),
      where_known (lines_left g.R.Read.remaining c.args.records.now) _ (λ all h. none all (left_pending g.R.Read.remaining c.args.records.now all h)),
    )
