use Rattle.khepri_types.proofs.After.{unchanged-after}
use Rattle.khepri_types.proofs.Answering.{refused-same}
use Rattle.khepri_types.proofs.laws.refused_changes_nothing.Goals as goal

pub returns-clause-line : goal.returns-clause-line
returns-clause-line c = refused-same

pub returns-clause-command : goal.returns-clause-command
returns-clause-command c = unchanged-after
