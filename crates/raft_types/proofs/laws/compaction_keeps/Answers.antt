-- The law of compaction.
use Rattle.raft_types.proofs.Compacts.{compacts}
use Rattle.raft_types.proofs.laws.compaction_keeps.Goals as goal

pub returns : goal.returns
returns c = compacts
