use Rattle.khepri_types.proofs.After.{position-after}
use Rattle.khepri_types.proofs.Positions.{position-history}
use Rattle.khepri_types.proofs.laws.positions_rise.Goals as goal

pub returns-clause-command : goal.returns-clause-command
returns-clause-command c = position-after

pub returns-clause-history : goal.returns-clause-history
returns-clause-history c = position-history
