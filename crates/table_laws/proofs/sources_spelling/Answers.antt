use Rattle.table_laws.proofs.ListLaws.{keys_takes, keys_again, values_takes, values_again}
use Rattle.table_laws.proofs.sources_spelling.Goals as goal

pub returns-clause-keys_again : goal.returns-clause-keys_again
returns-clause-keys_again c = keys_again

pub returns-clause-keys_take : goal.returns-clause-keys_take
returns-clause-keys_take c = λ text os rest e. keys_takes text (os, rest) e

pub returns-clause-values_again : goal.returns-clause-values_again
returns-clause-values_again c = values_again

pub returns-clause-values_take : goal.returns-clause-values_take
returns-clause-values_take c = λ text os rest e. values_takes text (os, rest) e
