use Rattle.cns_shell.proofs.fault.write_other.Goals as goal

pub returns-in_default : goal.returns-in_default
returns-in_default g c = rw c.in_default.is c.write_line.ensures

pub returns : goal.returns
returns g c = rw c.in-Some.is (rw (c.from.ensures, c.value.ensures.value) at c.write_line-2.ensures)
