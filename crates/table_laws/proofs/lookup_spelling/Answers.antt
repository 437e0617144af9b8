use Rattle.std.proofs.Common.{ap, ◌∙◌}
use Rattle.khepri_types.specs.ProjectionLines.{spelled_lookup}
use Rattle.table_laws.proofs.ProjectionSpelling.{spelled_lookup-takes, spelled_lookup-again}
use Rattle.table_laws.proofs.lookup_spelling.Goals as goal

pub returns : goal.returns
returns c = λ text q. (spelled_lookup-takes text q, λ h. ap spelled_lookup h.0 ∙ spelled_lookup-again q h.1)
