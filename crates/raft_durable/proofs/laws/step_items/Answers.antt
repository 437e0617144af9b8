use Rattle.raft_durable.proofs.OnStores.{step_says}
use Rattle.raft_durable.proofs.laws.step_items.Goals as goal

pub returns : goal.returns
returns c = step_says
