use Rattle.std.proofs.Common.{ap, ◌∙◌}
use Rattle.khepri_types.specs.ReadingOut.{out_at}
use Rattle.khepri_types.proofs.SpellingOut.{out_at-takes, out_at-again}
use Rattle.khepri_types.proofs.spellings.output_spelling.Goals as goal

pub returns : goal.returns
returns c = λ text x. (out_at-takes text x, λ h. ap out_at h.0 ∙ out_at-again x h.1)
