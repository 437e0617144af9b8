use Rattle.table_steps.proofs.Commands.{proj_does, unproj_does}
use Rattle.table_steps.proofs.refused_command_changes_nothing.Goals as goal

pub returns-clause-proj : goal.returns-clause-proj
returns-clause-proj c = λ S J. (proj_does S J).refused

pub returns-clause-unproj : goal.returns-clause-unproj
returns-clause-unproj c = λ S n. (unproj_does S n).refused
