use Rattle.std.proofs.Common.{◌≡◌, List, sym, ap, subst, ◌∙◌, length}
use Rattle.std.specs.FinMap.{from_sorted}
use Rattle.khepri_terms.specs.Terms.{NameText}
use Rattle.khepri_terms.specs.Order.{path_cmp}
use Rattle.khepri_types.specs.declared.node.Node.{Node}
use Rattle.khepri_types.specs.declared.node.Payload.TheVariants.{Empty}
use Rattle.khepri_types.specs.Sizes.{bytes}
use Rattle.khepri_types.specs.Tree.{fresh, opening_tree}
use Rattle.khepri_types.proofs.Fitting.{opening_bytes}
use Rattle.nested_nodes.proofs.Named.{leaf_is_nest}
use Rattle.tree_overlay.specs.Over.{IsShallow}
use Rattle.tree_overlay.proofs.Shallow.{shallow-opening}
use Rattle.tree_overlay.proofs.tree.Tree.fresh.Goals as goal

pub invariant_of-result : goal.invariant_of-result
invariant_of-result c =
    let same : opening_tree ≡ from_sorted {R = path_cmp} c.empty.result = ap (λ (ps : List (List NameText × Node)). from_sorted {R = path_cmp} ps) (sym c.empty.ensures) in
    (leaf_is_nest c.empty.result (fresh Empty, c.empty.ensures), sym (ap length c.empty.ensures), sym opening_bytes ∙ ap bytes same, subst IsShallow same shallow-opening)
