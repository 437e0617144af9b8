use Rattle.draft_scene.proofs.look.seen.Given as goal

abbrev pub ghosts-seen_from : goal.ghosts-seen_from
ghosts-seen_from a = record { name = a.blank.name; parts = a.blank.parts }
