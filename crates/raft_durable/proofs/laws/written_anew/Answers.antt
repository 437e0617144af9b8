use Rattle.raft_durable.proofs.Anew.{written}
use Rattle.raft_durable.proofs.laws.written_anew.Goals as goal

pub returns : goal.returns
returns c = written
