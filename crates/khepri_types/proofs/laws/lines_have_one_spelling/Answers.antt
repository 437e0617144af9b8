use Rattle.std.proofs.Common.{ap, ◌∙◌}
use Rattle.khepri_types.specs.Reading.{line_at}
use Rattle.khepri_types.proofs.Spelling.{line_at-takes, line_at-again}
use Rattle.khepri_types.proofs.laws.lines_have_one_spelling.Goals as goal

pub returns : goal.returns
returns c = λ text l. (line_at-takes text l, λ h. ap line_at h.0 ∙ line_at-again l h.1)
