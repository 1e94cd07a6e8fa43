use Rattle.cns_desk.proofs.desk.Desk.sheet.Goals as goal

pub returns-clause-handed : goal.returns-clause-handed
returns-clause-handed g c = c.sheet.ensures.handed
