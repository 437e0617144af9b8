use Rattle.std.proofs.Common.{ap, ◌∙◌}
use Rattle.khepri_types.specs.Reading.{spelled_command}
use Rattle.khepri_types.proofs.Spelling.{spelled_command-takes, spelled_command-again}
use Rattle.khepri_types.proofs.spellings.command_spelling.Goals as goal

pub returns : goal.returns
returns c = λ text cmd. (spelled_command-takes text cmd, λ h. ap spelled_command h.0 ∙ spelled_command-again cmd h.1)
