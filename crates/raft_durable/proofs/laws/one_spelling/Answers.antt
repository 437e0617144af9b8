use Rattle.raft_durable.proofs.Spelling.{store_spelled}
use Rattle.raft_durable.proofs.Unspelling.{store_unspelled}
use Rattle.raft_durable.proofs.laws.one_spelling.Goals as goal

pub returns-clause-spelled : goal.returns-clause-spelled
returns-clause-spelled c = store_spelled

pub returns-clause-read : goal.returns-clause-read
returns-clause-read c = store_unspelled
