use Rattle.table_laws.proofs.SourceSpelling.{source_takes, source_again}
use Rattle.table_laws.proofs.source_spelling.Goals as goal

pub returns-clause-again : goal.returns-clause-again
returns-clause-again c = source_again

pub returns-clause-takes : goal.returns-clause-takes
returns-clause-takes c = λ text o rest e. source_takes text (o, rest) e
