use Rattle.table_steps.proofs.Commands.{own_table, proj_spares}
use Rattle.table_steps.proofs.registered_table_shows.Goals as goal

pub returns-clause-own : goal.returns-clause-own
returns-clause-own c = own_table

pub returns-clause-others : goal.returns-clause-others
returns-clause-others c = proj_spares
