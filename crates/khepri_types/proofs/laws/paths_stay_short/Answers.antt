use Rattle.khepri_types.specs.Exec.{opening_state}
use Rattle.khepri_types.proofs.Short.{short-opening, short-run}
use Rattle.khepri_types.proofs.laws.paths_stay_short.Goals as goal

pub returns : goal.returns
returns c = λ es. short-run es opening_state short-opening
