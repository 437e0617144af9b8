use Rattle.khepri_types.proofs.Fitting.{fits-opening, fits-drop, fits-history}
use Rattle.khepri_types.proofs.laws.limits_stay.Goals as goal

pub returns-clause-opening : goal.returns-clause-opening
returns-clause-opening c = fits-opening

pub returns-clause-drop : goal.returns-clause-drop
returns-clause-drop c = fits-drop

pub returns-clause-history : goal.returns-clause-history
returns-clause-history c = fits-history
