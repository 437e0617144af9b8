use Rattle.worked_trees.proofs.changes.turns_once.Given as goal

abbrev pub ghosts-turns : goal.ghosts-turns
ghosts-turns a = record { name = a.blank.name; parts = a.blank.parts }
