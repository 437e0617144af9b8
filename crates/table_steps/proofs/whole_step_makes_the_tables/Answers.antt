use Rattle.table_steps.proofs.Histories.{step_makes}
use Rattle.table_steps.proofs.whole_step_makes_the_tables.Goals as goal

pub returns : goal.returns
returns c = step_makes
