use Rattle.table_steps.proofs.Histories.{all_kept}
use Rattle.table_steps.proofs.projections_stay_within.Goals as goal

pub returns-clause-ordered : goal.returns-clause-ordered
returns-clause-ordered c = λ es. (all_kept es).ordered

pub returns-clause-few : goal.returns-clause-few
returns-clause-few c = λ es. (all_kept es).few

pub returns-clause-rows : goal.returns-clause-rows
returns-clause-rows c = λ es. (all_kept es).rows
