use Rattle.cns_tables.proofs.Common.{arith}
use Rattle.std.proofs.lemmas.Str.Pattern.{split_parts}
use Rattle.cns_tables.proofs.Written.{first_blank, no_blank}
use Rattle.cns_tables.proofs.piece.cut.Goals as goal

pub returns-in-Some : goal.returns-in-Some
returns-in-Some c t ts =
    let cut = rw c.in-Some.is at (split_parts 95 c.args.form.now c.split_once.result c.split_once.ensures.cases (omega arith)) in
    rw cut.0 (first_blank _ _ t ts cut.1)

pub returns-in-None : goal.returns-in-None
returns-in-None c t ts = no_blank c.args.form.now t ts (rw c.in-None.is at (split_parts 95 c.args.form.now c.split_once.result c.split_once.ensures.cases (omega arith)))
