use Rattle.khepri_types.specs.Exec.{opening_state}
use Rattle.khepri_types.proofs.Standing.{tree-opening, tree-set, tree-drop}
use Rattle.khepri_types.proofs.Staying.{tree-run}
use Rattle.khepri_types.proofs.laws.trees_stay.Goals as goal

pub returns-clause-opening : goal.returns-clause-opening
returns-clause-opening c = tree-opening

pub returns-clause-put : goal.returns-clause-put
returns-clause-put c = tree-set

pub returns-clause-drop : goal.returns-clause-drop
returns-clause-drop c = tree-drop

pub returns-clause-history : goal.returns-clause-history
returns-clause-history c = λ es. tree-run es opening_state tree-opening
