use Rattle.std.proofs.Common.{sym, subst, ◌∙◌, ap}
use Rattle.std.specs.FinMap.{len}
use Rattle.khepri_types.specs.Tree.{IsTree}
use Rattle.tree_overlay.specs.Over.{IsShallow}
use Rattle.tree_overlay.proofs.Applying.{len-rows, tree-rows}
use Rattle.tree_overlay.proofs.tree.Tree.nodes.Goals as goal

pub returns-clause-count : goal.returns-clause-count
returns-clause-count c = c.self.invariant.1 ∙ (sym (len-rows c.self.inside.root c.self.invariant.0) ∙ ap len c.self.view_is)

pub returns-clause-tree : goal.returns-clause-tree
returns-clause-tree c = subst IsTree c.self.view_is (tree-rows c.self.inside.root c.self.invariant.0)

pub returns-clause-shallow : goal.returns-clause-shallow
returns-clause-shallow c = subst IsShallow c.self.view_is c.self.invariant.3
