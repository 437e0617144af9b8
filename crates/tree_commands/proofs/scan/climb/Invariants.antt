use Rattle.tree_commands.proofs.Masking.{Climbed}
use Rattle.tree_commands.proofs.scan.climb.Given as goal

abbrev pub invariant-up : goal.invariant-up
invariant-up l = Climbed l.from l.to l.names l.fn.masks l.masks

abbrev pub decreases-up : goal.decreases-up
decreases-up l = l.names
