use Rattle.std.proofs.Common.{ap, subst, ◌∙◌}
use Rattle.std.specs.FinMap.{len}
use Rattle.khepri_types.specs.Tree.{IsTree}
use Rattle.tree_overlay.specs.Over.{Drafted, IsShallow}
use Rattle.tree_overlay.proofs.draft.Draft.nodes.Goals as goal

pub returns-clause-count : goal.returns-clause-count
returns-clause-count c = c.self.invariant.0.counted ∙ ap (λ (d : Drafted). len d.tree) c.self.view_is

pub returns-clause-tree : goal.returns-clause-tree
returns-clause-tree c = subst IsTree (ap (λ (d : Drafted). d.tree) c.self.view_is) c.self.invariant.0.tree

pub returns-clause-shallow : goal.returns-clause-shallow
returns-clause-shallow c = subst IsShallow (ap (λ (d : Drafted). d.tree) c.self.view_is) c.self.invariant.2
