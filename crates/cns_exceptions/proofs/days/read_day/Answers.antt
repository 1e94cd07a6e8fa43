use Rattle.cns_exceptions.proofs.days.read_day.Goals as goal

pub returns : goal.returns
returns g c =
    let one = rw c.in-Some.is at c.in_ok-line.ensures in
    (one.1, λ all left. let (rest, first, after) = one.0 all left in (c.in-Some.line, rest, first, after, c.next_day.ensures))
