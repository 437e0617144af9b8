use Rattle.khepri_types.proofs.PatternSpelling.{condition_takes, condition_again}
use Rattle.khepri_types.proofs.spellings.condition_spelling.Goals as goal

pub returns-clause-again : goal.returns-clause-again
returns-clause-again c = condition_again

pub returns-clause-takes : goal.returns-clause-takes
returns-clause-takes c = λ text v rest e. condition_takes text (v, rest) e
