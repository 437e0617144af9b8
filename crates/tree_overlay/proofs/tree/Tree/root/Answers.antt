use Rattle.std.proofs.Common.{subst}
use Rattle.tree_overlay.specs.Over.{IsShallow}
use Rattle.tree_overlay.proofs.tree.Tree.root.Goals as goal

pub returns-clause-shallow : goal.returns-clause-shallow
returns-clause-shallow c = subst IsShallow c.self.view_is c.self.invariant.3
