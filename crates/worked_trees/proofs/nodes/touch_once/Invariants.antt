use Rattle.worked_trees.proofs.nodes.touch_once.Given as goal

abbrev pub ghosts-touch : goal.ghosts-touch
ghosts-touch a = record { name = a.blank.name; parts = a.blank.parts }
