use Rattle.table_steps.proofs.Commands.{none_exactly}
use Rattle.table_steps.proofs.none_is_no_projection.Goals as goal

pub returns : goal.returns
returns c = none_exactly
