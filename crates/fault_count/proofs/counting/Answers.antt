use Rattle.fault_count.proofs.Rising.{Rose-wider}
use Rattle.fault_count.proofs.counting.Goals as goal

pub returns-clause-rose : goal.returns-clause-rose
returns-clause-rose c = Rose-wider
