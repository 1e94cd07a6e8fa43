use Rattle.cns_tests.proofs.desk.seats.a_seat_takes_a_day_of_commands.Given as goal

abbrev pub ghosts-keeps_day : goal.ghosts-keeps_day
ghosts-keeps_day g a = record { name = a.blank.name; parts = a.blank.parts }
