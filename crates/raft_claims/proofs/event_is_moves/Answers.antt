-- By the lemmas.
use Rattle.raft_claims.proofs.EventTurns.{event_turn}
use Rattle.raft_claims.proofs.EventStops.{event_stop}
use Rattle.raft_claims.proofs.event_is_moves.Goals as goal

pub returns-clause-ends : goal.returns-clause-ends
returns-clause-ends c = λ n sender event a. event_turn n.start n.len n.sizes n.spine n.reached n.core n.whole n.tied n.members sender event a

pub returns-clause-stops : goal.returns-clause-stops
returns-clause-stops c = λ n sender event k a. event_stop n.start n.len n.sizes n.spine n.reached n.core n.whole n.tied n.members sender event a k
