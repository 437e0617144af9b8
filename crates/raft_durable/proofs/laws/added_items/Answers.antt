use Rattle.raft_durable.proofs.Steps.{says, fronts}
use Rattle.raft_durable.proofs.laws.added_items.Goals as goal

pub returns-clause-says : goal.returns-clause-says
returns-clause-says c = says

pub returns-clause-fronts : goal.returns-clause-fronts
returns-clause-fronts c = fronts
