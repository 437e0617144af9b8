use Rattle.machine_api.proofs.put.Given as goal

abbrev pub ghosts-put_picked : goal.ghosts-put_picked
ghosts-put_picked g a = record { entry = a.entry }
