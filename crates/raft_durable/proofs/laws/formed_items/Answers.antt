use Rattle.raft_durable.proofs.Anew.{form_says}
use Rattle.raft_durable.proofs.laws.formed_items.Goals as goal

pub returns : goal.returns
returns c = form_says
