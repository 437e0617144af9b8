use Rattle.std.proofs.Common.{ap, ◌∙◌}
use Rattle.khepri_types.specs.ProjectionLines.{spelled_proj, spelled_unproj}
use Rattle.table_laws.proofs.ProjectionSpelling.{proj_takes, proj_again, unproj_takes, unproj_again}
use Rattle.table_laws.proofs.table_command_spelling.Goals as goal

pub returns-clause-proj : goal.returns-clause-proj
returns-clause-proj c = λ text J. (proj_takes text J, λ h. ap spelled_proj h.0 ∙ proj_again J h.1)

pub returns-clause-unproj : goal.returns-clause-unproj
returns-clause-unproj c = λ text n. (unproj_takes text n, λ h. ap spelled_unproj h.0 ∙ unproj_again n h.1)
