use Rattle.worked_trees.proofs.settling.runs_once.Given as goal

abbrev pub ghosts-runs : goal.ghosts-runs
ghosts-runs a = record { name = a.blank.name; parts = a.blank.parts }
