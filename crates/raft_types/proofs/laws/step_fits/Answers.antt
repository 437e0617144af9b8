-- The law, by the rule of each event.
use Rattle.raft_types.proofs.Writes.{step_fits}
use Rattle.raft_types.proofs.laws.step_fits.Goals as goal

pub returns : goal.returns
returns c = λ d event h e. step_fits d event h e
