use Rattle.khepri_types.proofs.ScriptSpelling.{script_takes, script_again}
use Rattle.script_laws.proofs.script_spelling.Goals as goal

pub returns-clause-again : goal.returns-clause-again
returns-clause-again c = script_again

pub returns-clause-takes : goal.returns-clause-takes
returns-clause-takes c = λ text v rest e. script_takes text (v, rest) e
