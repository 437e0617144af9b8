use Rattle.std.proofs.Common.{subst}
use Rattle.khepri_types.specs.Tree.{IsTree}
use Rattle.tree_overlay.proofs.Applying.{tree-rows}
use Rattle.tree_walks.specs.Walks.{Walked}
use Rattle.tree_walks.proofs.descent.Walk.len.Goals as goal

pub returns-clause-tree : goal.returns-clause-tree
returns-clause-tree c = subst (λ (w : Walked). IsTree w.tree) c.self.view_is (tree-rows c.self.inside.root.now c.self.invariant.0)
