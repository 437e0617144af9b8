use Rattle.table_steps.proofs.Histories.{from_opening}
use Rattle.table_steps.proofs.tables_follow.Goals as goal

pub returns : goal.returns
returns c = from_opening
