use Rattle.table_steps.proofs.Commands.{gone_table, unproj_spares}
use Rattle.table_steps.proofs.removed_table_is_gone.Goals as goal

pub returns-clause-own : goal.returns-clause-own
returns-clause-own c = gone_table

pub returns-clause-others : goal.returns-clause-others
returns-clause-others c = unproj_spares
