use Rattle.table_laws.proofs.ProjectionSpelling.{projection_takes, projection_again}
use Rattle.table_laws.proofs.projection_spelling.Goals as goal

pub returns-clause-again : goal.returns-clause-again
returns-clause-again c = projection_again

pub returns-clause-takes : goal.returns-clause-takes
returns-clause-takes c = λ text J rest e. projection_takes text (J, rest) e
