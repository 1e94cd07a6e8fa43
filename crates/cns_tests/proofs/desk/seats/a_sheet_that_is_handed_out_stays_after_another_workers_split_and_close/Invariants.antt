use Rattle.cns_tests.proofs.desk.seats.a_sheet_that_is_handed_out_stays_after_another_workers_split_and_close.Given as goal

abbrev pub ghosts-keeps_sheet : goal.ghosts-keeps_sheet
ghosts-keeps_sheet g a = record { name = a.blank.name; parts = a.blank.parts }
