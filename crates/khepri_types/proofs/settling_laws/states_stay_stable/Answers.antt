use Rattle.khepri_types.specs.Exec.{opening_state}
use Rattle.khepri_types.proofs.Staying.{stable-opening, stable-entry, stable-run, stays-stable}
use Rattle.khepri_types.proofs.settling_laws.states_stay_stable.Goals as goal

pub returns-clause-opening : goal.returns-clause-opening
returns-clause-opening c = stable-opening

pub returns-clause-entry : goal.returns-clause-entry
returns-clause-entry c = stable-entry

pub returns-clause-history : goal.returns-clause-history
returns-clause-history c = λ es. stable-run es opening_state stable-opening

pub returns-clause-output : goal.returns-clause-output
returns-clause-output c = stays-stable
