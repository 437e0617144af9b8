use Rattle.std.specs.Prelude.{◌≡◌, ◌-◌, length}
use Rattle.tree_walks.proofs.Sweeping.{Clearing}
use Rattle.tree_walks.proofs.sweeps.+sweep.Given as goal

abbrev pub invariant-children : goal.invariant-children
invariant-children l = Clearing l.path l.last l.left l.fn.draft l.draft

abbrev pub decreases-children : goal.decreases-children
decreases-children l = l.left

abbrev pub decreases-sweep : goal.decreases-sweep
decreases-sweep l = 33 - length l.path.now
