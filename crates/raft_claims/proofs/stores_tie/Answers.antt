-- By the lemmas.
use Rattle.raft_claims.proofs.Lawful.{begins_tied, stores_tie}
use Rattle.raft_claims.proofs.stores_tie.Goals as goal

pub returns-clause-begin : goal.returns-clause-begin
returns-clause-begin c = begins_tied

pub returns-clause-stay : goal.returns-clause-stay
returns-clause-stay c = stores_tie
