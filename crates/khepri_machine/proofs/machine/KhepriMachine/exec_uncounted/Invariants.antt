use Rattle.khepri_machine.proofs.machine.KhepriMachine.exec_uncounted.Given as goal

abbrev pub ghosts-exec_from : goal.ghosts-exec_from
ghosts-exec_from a = record { name = a.blank.name; parts = a.blank.parts }
