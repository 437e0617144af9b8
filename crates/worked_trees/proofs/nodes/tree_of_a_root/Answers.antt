use Rattle.std.proofs.Common.{List, [], ◌∷◌, sym, subst}
use Rattle.std.specs.FinMap.{from_sorted}
use Rattle.khepri_terms.specs.Terms.{NameText}
use Rattle.khepri_terms.specs.Order.{path_cmp}
use Rattle.khepri_types.specs.declared.node.Payload.TheVariants.{Empty}
use Rattle.khepri_types.specs.declared.watch.Watch.{Watch}
use Rattle.khepri_types.specs.Tree.{Tree, IsTree}
use Rattle.khepri_types.proofs.Standing.{tree-opening}
use Rattle.tree_nodes.specs.Drafts.{IsShallow}
use Rattle.tree_nodes.proofs.Laying.{shallow-opening}
use Rattle.worked_trees.proofs.nodes.tree_of_a_root.Goals as goal

-- the tree of one empty node
abbrev one : List NameText → List Watch → Tree
one p w = from_sorted {R = path_cmp} ((p, record { payload = Empty; pv = 1; cv = 1; watches = w }) ∷ [])

pub of-requires-clause-tree : goal.of-requires-clause-tree
of-requires-clause-tree c =
    subst (λ (p : List NameText). IsTree (one p c.none.result)) (sym c.root.ensures) (subst (λ (w : List Watch). IsTree (one [] w)) (sym c.none.ensures) tree-opening)

pub of-requires-clause-shallow : goal.of-requires-clause-shallow
of-requires-clause-shallow c =
    subst (λ (p : List NameText). IsShallow (one p c.none.result)) (sym c.root.ensures) (subst (λ (w : List Watch). IsShallow (one [] w)) (sym c.none.ensures) shallow-opening)
