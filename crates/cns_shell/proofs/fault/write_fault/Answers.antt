use Rattle.cns_shell.proofs.fault.write_fault.Goals as goal

pub returns-in-OtherPage : goal.returns-in-OtherPage
returns-in-OtherPage g c = rw c.in-OtherPage.is c.write_other.ensures
