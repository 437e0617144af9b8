use Rattle.table_laws.proofs.ListLaws.{read_key_takes, read_key_again, row_value_takes, row_value_again}
use Rattle.table_laws.proofs.scalars_spelling.Goals as goal

pub returns-clause-key_again : goal.returns-clause-key_again
returns-clause-key_again c = read_key_again

pub returns-clause-key_takes : goal.returns-clause-key_takes
returns-clause-key_takes c = λ text xs rest e. read_key_takes text (xs, rest) e

pub returns-clause-value_again : goal.returns-clause-value_again
returns-clause-value_again c = row_value_again

pub returns-clause-value_takes : goal.returns-clause-value_takes
returns-clause-value_takes c = λ text xs rest e. row_value_takes text (xs, rest) e
