-- By the lemmas.
use Rattle.raft_claims.proofs.Claims.{claim_stays}
use Rattle.raft_claims.proofs.Lawful.{others_stay}
use Rattle.raft_claims.proofs.claims_stay.Goals as goal

pub returns-clause-claims : goal.returns-clause-claims
returns-clause-claims c = λ b len s s2 g from to body nz x. claim_stays b len s s2 g from to body nz x

pub returns-clause-others : goal.returns-clause-others
returns-clause-others c = others_stay
