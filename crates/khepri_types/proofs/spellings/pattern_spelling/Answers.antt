use Rattle.khepri_types.proofs.PatternSpelling.{pattern_takes, pattern_again}
use Rattle.khepri_types.proofs.spellings.pattern_spelling.Goals as goal

pub returns-clause-again : goal.returns-clause-again
returns-clause-again c = pattern_again

pub returns-clause-takes : goal.returns-clause-takes
returns-clause-takes c = λ text parts rest e. pattern_takes text (parts, rest) e
