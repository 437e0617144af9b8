use Rattle.std.proofs.Common.{ap}
use Rattle.std.specs.Prelude.{is_some}
use Rattle.worked_trees.proofs.changes.watch.Goals as goal

pub set_watches-requires : goal.set_watches-requires
set_watches-requires g c = record { stands = ap is_some c.in-Some.ensures.watches }
