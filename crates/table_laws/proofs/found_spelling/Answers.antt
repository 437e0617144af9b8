use Rattle.std.proofs.Common.{ap, ◌∙◌}
use Rattle.khepri_types.specs.RowTexts.{spelled_found}
use Rattle.table_laws.proofs.RowSpelling.{found_takes, found_again}
use Rattle.table_laws.proofs.found_spelling.Goals as goal

pub returns : goal.returns
returns c = λ text x. (found_takes text x, λ h. ap spelled_found h.0 ∙ found_again x h.1)
