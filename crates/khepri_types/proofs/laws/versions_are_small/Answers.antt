use Rattle.khepri_types.proofs.Versions.{within-history}
use Rattle.khepri_types.proofs.laws.versions_are_small.Goals as goal

pub returns-clause-payload : goal.returns-clause-payload
returns-clause-payload c = λ es p n e. let w = within-history es p n e in (w.pv_low, w.pv_high)

pub returns-clause-children : goal.returns-clause-children
returns-clause-children c = λ es p n e. let w = within-history es p n e in (w.cv_low, w.cv_high)
